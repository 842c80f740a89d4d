-- Rows that were put together from their ends, and the lines that they are.
use Rattle.std.proofs.Common.{◌≡◌, ℕ, List, [], ◌++◌, codes, length, append_assoc, Option, Result, Ok, Err, OnOk}
use Rattle.std.specs.Fmt.{decimal}
use Rattle.std.specs.Char.{encode_utf8}
use Rattle.ua_chunk.specs.Layout.{FlaggedChunk}
use Rattle.ua_chunk.specs.declared.content.Content.TheVariants.{Message, Close}
use Rattle.ua_value.specs.declared.node.NodeId.{NodeId}
use Rattle.ua_print.specs.FrameLine.{chunk_text, frame_line, type_text, message_text}

-- what is said of a MSG or CLO
pub chunk_row : (m : FlaggedChunk) (channel token sequence request body : ℕ) (end bodies requests sequences tokens row : List ℕ)
    → channel ≡ m.chunk.channel → token ≡ m.chunk.token → sequence ≡ m.chunk.sequence → request ≡ m.chunk.request_id → body ≡ length m.chunk.body
    → end ≡ codes "\n" ++ [] → bodies ≡ codes " body=" ++ decimal body ++ end → requests ≡ codes " request=" ++ decimal request ++ bodies
    → sequences ≡ codes " sequence=" ++ decimal sequence ++ requests → tokens ≡ codes " token=" ++ decimal token ++ sequences → row ≡ codes " channel=" ++ decimal channel ++ tokens
    → row ≡ codes " " ++ chunk_text m ++ codes "\n"
chunk_row m channel token sequence request body end bodies requests sequences tokens row c t s r b e0 e1 e2 e3 e4 e5 =
    rw (e5, e4, e3, e2, e1, e0, c, t, s, r, b) (simp append_assoc)

close_parts : (o b w s x e : List ℕ) → o ++ ((b ++ w) ++ s ++ (b ++ x ++ e)) ≡ o ++ b ++ (w ++ s ++ b ++ x) ++ e
close_parts o b w s x e = simp append_assoc

message_parts : (o b w f s x e : List ℕ) → o ++ ((b ++ w) ++ (f ++ (b ++ s ++ (b ++ x ++ e)))) ≡ o ++ b ++ (w ++ f ++ b ++ s ++ b ++ x) ++ e
message_parts o b w f s x e = simp append_assoc

-- the line of a CLO
pub close_row : (m : FlaggedChunk) (offset size : ℕ) (said sizes row : List ℕ) → said ≡ codes " " ++ chunk_text m ++ codes "\n" → sizes ≡ codes " CLO " ++ decimal size ++ said → row ≡ [] ++ decimal offset ++ sizes
    → row ≡ frame_line offset size (Close m)
unfolding frame_line
close_row m offset size said sizes row e0 e1 e2 = rw (e2, e1, e0) (close_parts (decimal offset) (codes " ") (codes "CLO ") (decimal size) (chunk_text m) (codes "\n"))

-- the line of a MSG
pub message_row : (m : FlaggedChunk) (offset size : ℕ) (flag said sizes flags words row : List ℕ) → said ≡ codes " " ++ chunk_text m ++ codes "\n" → sizes ≡ codes " " ++ decimal size ++ said
    → flag ≡ encode_utf8 m.flag → flags ≡ flag ++ sizes → words ≡ codes " MSG " ++ flags → row ≡ [] ++ decimal offset ++ words
    → row ≡ frame_line offset size (Message m)
unfolding frame_line
message_row m offset size flag said sizes flags words row e0 e1 f e2 e3 e4 = rw (e4, e3, e2, f, e1, e0) (message_parts (decimal offset) (codes " ") (codes "MSG ") (encode_utf8 m.flag) (decimal size) (chunk_text m) (codes "\n"))

said_parts : (t a r b i c s e : List ℕ) → t ++ a ++ r ++ b ++ i ++ c ++ s ++ e ≡ t ++ (a ++ r ++ b ++ i ++ c ++ s ++ e)
said_parts t a r b i c s e = simp append_assoc

-- the line of a message, from its three parts
pub message_said : {E : Type 0} (result : Result (Unit {0}) E) (number request size : ℕ) (id : Option NodeId) (t front named all : List ℕ) → number ≡ request → front ≡ t ++ codes "  message request=" ++ decimal number ++ codes " type=" → named ≡ front ++ type_text id
    → OnOk result (all ≡ named ++ codes " size=" ++ decimal size ++ codes "\n") → OnOk result (all ≡ t ++ (message_text request id size ++ codes "\n"))
unfolding message_text
message_said (Ok x) number request size id t front named all n f i e =
    rw (e, i, f, n) (said_parts t (codes "  message request=") (decimal request) (codes " type=") (type_text id) (codes " size=") (decimal size) (codes "\n"))
message_said (Err x) number request size id t front named all n f i e = tt
