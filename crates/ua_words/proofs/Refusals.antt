-- What is refused since a part of it is.
use Rattle.std.proofs.Common.{◌≡◌, ℕ, List, [], ◌∷◌, codes, Some, ap, arith, refl, ◌∙◌, sym, subst}
use Rattle.std.proofs.lemmas.Option.{same_Some}
use Rattle.ua_words.specs.Command.{AreAskedTexts, ArePlaces, IsCalledPlace, IsNamed, RefusedBy, Words, name_of_question}
use Rattle.ua_words.specs.declared.command.Command.{Command}
use Rattle.ua_words.specs.declared.command.Command.TheVariants.{Answer, Value, Show, Serve, ServeMany, Ask, Check}
use Rattle.ua_words.specs.declared.command.WordFault.{WordFault}
use Rattle.ua_words.specs.declared.command.WordFault.TheVariants.{Bad, NoMemory as NoRoom}
use Rattle.ua_words.specs.declared.question.Question.{Question}
use Rattle.ua_words.specs.declared.question.Question.TheVariants.{Find, Endpoints}

-- each whole has a part, and there is no part
pub refused_part : {A B : Type 0} (IsPart : A → Type 0) (IsWhole : B → Type 0) (fault : WordFault) → ((b : B) → IsWhole b → (a : A) × IsPart a) → RefusedBy IsPart fault → RefusedBy IsWhole fault
refused_part IsPart IsWhole Bad part h = λ b is. let p = part b is in h p.0 p.1
refused_part IsPart IsWhole NoRoom part h = tt

-- the first character of a word
abbrev first : List ℕ → ℕ
first [] = 0
first (c ∷ cs) = c

-- the command of a word has its parts
pub asked_places : (word : Words) (c : Command) → IsNamed (codes "ask") word c → (places : _) × ArePlaces word places
asked_places word (Answer source reverse) named = let e : codes "answer" ≡ codes "ask" = named.0 in absurd cc
asked_places word (Value kind bytes form) named = let e : codes "value" ≡ codes "ask" = named.0 in absurd cc
asked_places word (Show capture form stream port) named = let e : codes "show" ≡ codes "ask" = named.0 in absurd cc
asked_places word (Serve source address connections reverse) named = let e : codes "serve" ≡ codes "ask" = named.0 in absurd cc
asked_places word (ServeMany source address connections at_once patience) named = let e : codes "serve" ≡ codes "ask" = named.0 in absurd cc
asked_places word (Ask question locales filter address url seconds form) named = ((address, url), named.1.2)
asked_places word (Check source address url seconds) named = let bad : 99 ≡ 97 = ap first named.0 in absurd (omega (arith, bad))

pub checked_place : (word : Words) (c : Command) → IsNamed (codes "check") word c → (place : _) × IsCalledPlace word place
checked_place word (Answer source reverse) named = let bad : 97 ≡ 99 = ap first named.0 in absurd (omega (arith, bad))
checked_place word (Value kind bytes form) named = let bad : 118 ≡ 99 = ap first named.0 in absurd (omega (arith, bad))
checked_place word (Show capture form stream port) named = let bad : 115 ≡ 99 = ap first named.0 in absurd (omega (arith, bad))
checked_place word (Serve source address connections reverse) named = let bad : 115 ≡ 99 = ap first named.0 in absurd (omega (arith, bad))
checked_place word (ServeMany source address connections at_once patience) named = let bad : 115 ≡ 99 = ap first named.0 in absurd (omega (arith, bad))
checked_place word (Ask question locales filter address url seconds form) named = let bad : 97 ≡ 99 = ap first named.0 in absurd (omega (arith, bad))
checked_place word (Check source address url seconds) named = ((address, url), named.1.1)

-- a question has one name
same_question : (a b : Question) → name_of_question a ≡ name_of_question b → a ≡ b
same_question Find Find e = refl
same_question Find Endpoints e = let e : codes "find" ≡ codes "endpoints" = e in absurd cc
same_question Endpoints Find e = let e : codes "endpoints" ≡ codes "find" = e in absurd cc
same_question Endpoints Endpoints e = refl

pub asked_texts : (word : Words) (question : Question) (c : Command) → word.one (codes "question") ≡ Some (name_of_question question) → IsNamed (codes "ask") word c → (texts : _) × AreAskedTexts question word texts
asked_texts word question (Answer source reverse) asked named = let e : codes "answer" ≡ codes "ask" = named.0 in absurd cc
asked_texts word question (Value kind bytes form) asked named = let e : codes "value" ≡ codes "ask" = named.0 in absurd cc
asked_texts word question (Show capture form stream port) asked named = let e : codes "show" ≡ codes "ask" = named.0 in absurd cc
asked_texts word question (Serve source address connections reverse) asked named = let e : codes "serve" ≡ codes "ask" = named.0 in absurd cc
asked_texts word question (ServeMany source address connections at_once patience) asked named = let e : codes "serve" ≡ codes "ask" = named.0 in absurd cc
asked_texts word question (Ask other locales filter address url seconds form) asked named =
    ((locales, filter), subst (λ q. AreAskedTexts q word (locales, filter)) (same_question other question (same_Some _ _ (sym named.1.0 ∙ asked))) named.1.1)
asked_texts word question (Check source address url seconds) asked named = let bad : 99 ≡ 97 = ap first named.0 in absurd (omega (arith, bad))
