-- The numbers of a reply, counted and taken one after another.
use Rattle.std.proofs.Common.{◌≡◌, ℕ, ◌+◌, Bool, true, false, cond, List, [], ◌∷◌, ◌++◌, refl, sym, ap, ◌∙◌, append_assoc, arith}
use Rattle.ua_chunk.specs.Numbers.{number_after}
use Rattle.ua_chunk.specs.NumberLaws.{number_after_more}
use Rattle.ua_conn.specs.server.Site.{Site}
use Rattle.ua_conn.specs.server.Replies.{Reply, spelled, spelled_all, is_numbered, more_numbered, numbered_after}
use Rattle.ua_conn.specs.server.Machine.{number_then, spelled_next, next_after}

by_test : (b : Bool) (n : ℕ) → number_after 1 (cond b (n + 1) n) ≡ cond b (number_after (number_after 1 n) 1) (number_after 1 n)
by_test true n = sym (number_after_more 1 n 1 (omega arith))
by_test false n = refl

one_number : (n : ℕ) (r : Reply) → number_after 1 (more_numbered n r) ≡ number_then (number_after 1 n) r
one_number n r = by_test (is_numbered r) n

pub all_numbers : (n : ℕ) (rs : List Reply) → number_after 1 (numbered_after n rs) ≡ next_after (number_after 1 n) rs
all_numbers n [] = refl
all_numbers n (r ∷ rs) = all_numbers (more_numbered n r) rs ∙ ap (λ k. next_after k rs) (one_number n r)

pub numbered_append : (n : ℕ) (rs qs : List Reply) → numbered_after n (rs ++ qs) ≡ numbered_after (numbered_after n rs) qs
numbered_append n [] qs = refl
numbered_append n (r ∷ rs) qs = numbered_append (more_numbered n r) rs qs

pub spelled_append : (site : Site) (n : ℕ) (rs qs : List Reply) → spelled_all site n (rs ++ qs) ≡ spelled_all site n rs ++ spelled_all site (numbered_after n rs) qs
spelled_append site n [] qs = refl
spelled_append site n (r ∷ rs) qs =
    ap (λ s. spelled site (number_after 1 n) r ++ s) (spelled_append site (more_numbered n r) rs qs)
    ∙ sym (append_assoc (spelled site (number_after 1 n) r) _ _)

pub spelled_is_next : (site : Site) (n : ℕ) (rs : List Reply) → spelled_all site n rs ≡ spelled_next site (number_after 1 n) rs
spelled_is_next site n [] = refl
spelled_is_next site n (r ∷ rs) =
    ap (λ s. spelled site (number_after 1 n) r ++ s) (spelled_is_next site (more_numbered n r) rs ∙ ap (λ k. spelled_next site k rs) (one_number n r))
