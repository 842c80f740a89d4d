use Rattle.std.proofs.Common.{◌≡◌, ℕ, arith, length, Bool, true, false, List, [], None, Some, refl, ap, sym, ◌∙◌}
use Rattle.ua_frame.specs.Buffer.{Buffered}
use Rattle.ua_frame.specs.Streams.{cuts_within, rest_within}
use Rattle.ua_chunk.specs.Numbers.{number_after}
use Rattle.ua_chunk.specs.NumberLaws.{number_after_none}
use Rattle.ua_conn.specs.client.Asker.{Asker}
use Rattle.ua_conn.specs.client.Past.{client_known}
use Rattle.ua_conn.specs.client.Held.{client_held}
use Rattle.ua_conn.specs.client.Feeding.{ClientShown}
use Rattle.ua_conn.specs.client.Taking.{ClientRunning}
use Rattle.ua_conn.specs.client.Telling.{shown_of}
use Rattle.ua_conn.specs.declared.client.config.ClientConfig.{ClientConfig}
use Rattle.ua_conn.proofs.ClientEnd.BoundLemmas.{all_parts}
use Rattle.ua_conn.proofs.client.Client.saying.Goals as goal

-- a connection over which nothing came
abbrev begun : ClientConfig → Bool → ℕ → ClientRunning
begun config reverse next = record { config = config; waits = record { reverse = reverse; known = client_known []; pending = []; due = Some 1 }; next = next; moment = 0 }

abbrev shows : ClientConfig → Bool → ℕ → List ℕ → ClientShown
shows config reverse first out =
    let a : Asker = record { config = config; url = None; first_sequence = first; reverse = reverse } in
    record { config = config; held = client_held a []; output = out; failed = false }

starts : (config : ClientConfig) (reverse : Bool) (first : ℕ) (out : List ℕ) → shown_of (begun config reverse (number_after first 0)) false 2 0 [] out false ≡ shows config reverse first out
unfolding client_held cuts_within rest_within
starts config true first out = refl
starts config false first out = refl

pub returns : goal.returns
returns c =
    let first : c.args.first_sequence ≡ number_after c.args.first_sequence 0 = sym (number_after_none c.args.first_sequence (record { some = c.requires.first_least; least = c.requires.first_most })) in
    (λ i. shown_of (c.in_ok-connection.ensures i) false 2 0 (c.in_ok-buffer.ensures i).bytes c.args.output.items false)
    ∙ (λ i. shown_of (begun c.args.config c.args.reverse (first i)) false 2 0 [] c.args.output.items false)
    ∙ starts c.args.config c.args.reverse c.args.first_sequence c.args.output.items

pub invariant_of-result : goal.invariant_of-result
invariant_of-result c =
    let begins = c.in_ok-connection.ensures in
    record {
      timely = record { within = λ _. omega (arith, ap (λ (r : ClientRunning). r.moment) begins); clock = omega arith };
      bounded = record {
        room = ap (λ (b : Buffered). b.capacity) c.in_ok-buffer.ensures ∙ sym (ap (λ (r : ClientRunning). r.config.buffer) begins);
        rest = omega (arith, ap (λ (b : Buffered). length b.bytes) c.in_ok-buffer.ensures);
        half = c.keeps_limits.ensures;
        all = all_parts _;
      };
    }
