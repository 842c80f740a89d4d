-- The laws of messages and their bodies.
use Rattle.std.proofs.Common.{◌≡◌, ◌≤◌, ◌<◌, ◌^◌, ℕ, List, ◌++◌, length, Bool, true, false, Some, Ok, Err, refl, sym, ap, subst, ◌∙◌, lit<}
use Rattle.std.specs.Prelude.{◌==◌, ◌≢◌}
use Rattle.std.proofs.lemmas.Bool.{and_parts, eqb-true, eq-eqb}
use Rattle.ua_value.specs.declared.node.NodeId.{NodeId}
use Rattle.ua_value.specs.declared.node.Identifier.{Identifier}
use Rattle.ua_value.specs.declared.node.Identifier.TheVariants as identifiers
use Rattle.ua_value.specs.declared.fault.ReadFault.{ReadFault}
use Rattle.ua_value.specs.declared.fault.ReadFault.TheVariants.{Refused, NoMemory}
use Rattle.ua_value.specs.Format.{◌>>=◌, IsBytes, Format, IsLawful, Fails, input_limit}
use Rattle.ua_value.specs.Lists.{IsBytes-rest, bind_some, guarded, same_some}
use Rattle.ua_value.specs.Whole.{only, only_takes, only_again, ReadsAll}
use Rattle.ua_value.specs.SequenceLaws.{lawful_pair}
use Rattle.ua_value.specs.Node.{node_id}
use Rattle.ua_value.specs.NodeLaws.{lawful_node}
use Rattle.ua_service.specs.Message.{Message, id_of, is_number, is_id, IsBodyOf, fields_of, message, AgreeOn, HasOneMessage}

pub record IsLawfulMessage {V : Type 0} (m : Message V) : Type 0 where
  -- what the bytes are read as, they are a body of
  pub takes : (bytes : List ℕ) (v : V) → IsBytes bytes → m.message_of bytes ≡ Some v → m.IsBody v bytes
  -- what they are a body of, they are read as
  pub again : (v : V) (bytes : List ℕ) → m.IsBody v bytes → m.message_of bytes ≡ Some v
  pub canonical : (v : V) → m.IsValue v → m.IsBody v (m.canon v)
  pub shortest : (v : V) (bytes : List ℕ) → m.IsBody v bytes → length (m.canon v) ≤ length bytes
  pub a_value : (v : V) (bytes : List ℕ) → m.IsBody v bytes → length bytes ≤ input_limit → m.IsValue v

pub agree : {V : Type 0} (m : Message V) → IsLawfulMessage m → AgreeOn m
agree m law v bytes fits = (λ e. law.takes bytes v fits e, λ s. law.again v bytes s)

pub one_message : {V : Type 0} (m : Message V) → IsLawfulMessage m → HasOneMessage m
one_message m law v w bytes s t = same_some v w (sym (law.again v bytes s) ∙ law.again w bytes t)

pub found : {V : Type 0} (m : Message V) → IsLawfulMessage m → (bytes : List ℕ) (v : V) → IsBytes bytes → m.message_of bytes ≡ Some v → ReadsAll m.IsBody bytes (Ok v)
found m law bytes v fits e = law.takes bytes v fits e

pub refused : {V : Type 0} (m : Message V) → IsLawfulMessage m → (bytes : List ℕ) (fault : ReadFault) → Fails fault (m.message_of bytes) → ReadsAll m.IsBody bytes (Err fault)
refused m law bytes Refused h = λ v s. absurd (let e = sym h ∙ law.again v bytes s in cc)
refused m law bytes NoMemory h = tt

-- ---- ids

id_is : (n namespace : ℕ) (i : Identifier) → (namespace == 0) ≡ true → is_number n i ≡ true → (record { namespace_index = namespace; identifier = i }) ≡ id_of n
id_is n namespace (identifiers.Numeric k) e h = let same : k ≡ n = eqb-true _ _ h in let none : namespace ≡ 0 = eqb-true _ _ e in cc
id_is n namespace (identifiers.String t) e h = absurd cc
id_is n namespace (identifiers.Guid g) e h = absurd cc
id_is n namespace (identifiers.Opaque b) e h = absurd cc

pub known : (n : ℕ) (id : NodeId) → is_id n id ≡ true → id ≡ id_of n
known n id e = let b = and_parts (id.namespace_index == 0) (is_number n id.identifier) e in id_is n id.namespace_index id.identifier b.0 b.1

pub own : (n : ℕ) → is_id n (id_of n) ≡ true
own n = eq-eqb n n refl

pub unlike : (n : ℕ) (id : NodeId) → is_id n id ≡ false → id ≢ id_of n
unlike n id e same = absurd (let k = sym e ∙ ap (is_id n) same ∙ own n in cc)

pub not_own : (n : ℕ) (id : NodeId) (b : Bool) → is_id n id ≡ b → id ≢ id_of n → b ≡ false
not_own n id true e h = absurd (h (known n id e))
not_own n id false e h = refl

pub id_value : (n : ℕ) → n < 2 ^ 32 → node_id.IsValue (id_of n)
unfolding node_id
id_value n h = (lit< tt, h)

-- ---- messages of one id

-- the id, and then the fields
pub one_kind : {V : Type 0} (n : ℕ) (f : Format V) → IsLawful f → (id : NodeId) (text rest : List ℕ) (v : V) → IsBytes rest → node_id.grammar.spells id text → is_id n id ≡ true → only f.grammar rest ≡ Some v
    → (bytes : List ℕ) → bytes ≡ text ++ rest → IsBodyOf n f v bytes
one_kind n f law id text rest v fits s e read bytes parts =
    (text, rest, subst (λ (k : NodeId). node_id.grammar.spells k text) (known n id e) s, only_takes f.grammar law.reads rest v fits read, parts)

pub lawful_message : {V : Type 0} (n : ℕ) (f : Format V) → n < 2 ^ 32 → IsLawful f → IsLawfulMessage (message n f)
unfolding message
lawful_message {V} n f low law = record {
  takes = λ bytes v fits e.
      let one = bind_some (node_id.grammar.front bytes) (λ id. fields_of n f id.0 id.1) v e in
      let g = guarded (is_id n one.0.0) (only f.grammar one.0.1) v one.2 in
      let t = lawful_node.reads.takes bytes one.0.0 one.0.1 fits one.1 in
      (t.text, one.0.1, subst (λ (k : NodeId). node_id.grammar.spells k t.text) (known n one.0.0 g.0) t.spelled, only_takes f.grammar law.reads one.0.1 v (IsBytes-rest bytes t.text one.0.1 fits t.parts) g.1, t.parts);
  again = λ v bytes s.
      ap (λ (l : List ℕ). node_id.grammar.front l >>= λ id. fields_of n f id.0 id.1) s.4 ∙ rw (lawful_node.reads.again (id_of n) s.0 s.1 s.2, own n, only_again f.grammar law.reads s.1 v s.3) refl;
  canonical = λ v h. (lawful_pair node_id f lawful_node law).canonical (id_of n, v) (id_value n low, h);
  shortest = λ v bytes s. (lawful_pair node_id f lawful_node law).shortest (id_of n, v) bytes s;
  a_value = λ v bytes s h. ((lawful_pair node_id f lawful_node law).a_value (id_of n, v) bytes s h).1;
}
