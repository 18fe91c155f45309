use Rattle.std.proofs.Common.{◌≡◌, ◌+◌, ◌-◌, ◌≤◌, ℕ, List, ◌++◌, Option, Some, None, length, take, drop, ap, sym, ◌∙◌, append_assoc, length-drop, arith}
use Rattle.std.specs.Option.{option_map}
use Rattle.std.proofs.lemmas.List.{length-take, take_rest}
use Rattle.std.proofs.Math.Seq.{take-add}
use Rattle.ped_io.proofs.writing.put_all.Goals as goal

-- what was taken grows by what a write takes
took_more : (start before now : Option (List ℕ)) (bytes piece : List ℕ) (sent n : ℕ) →
    piece ≡ drop sent bytes →
    before ≡ option_map (λ b. b ++ take sent bytes) start →
    now ≡ option_map (λ b. b ++ take n piece) before →
    now ≡ option_map (λ b. b ++ take (sent + n) bytes) start
took_more None before now bytes piece sent n rest was took =
    took ∙ ap (option_map (λ b. b ++ take n piece)) was
took_more (Some b) before now bytes piece sent n rest was took =
    let joined : take sent bytes ++ take n piece ≡ take (sent + n) bytes =
    ap (λ t. take sent bytes ++ take n t) rest ∙ sym (take-add sent n bytes) in
    took
    ∙ ap (option_map (λ b. b ++ take n piece)) was
    ∙ ap (λ t. Some t) (append_assoc b (take sent bytes) (take n piece) ∙ ap (λ t. b ++ t) joined)

sent_more : (start before now bytes piece : List ℕ) (sent n : ℕ) → piece ≡ drop sent bytes →
    before ≡ start ++ take sent bytes → now ≡ before ++ take n piece → now ≡ start ++ take (sent + n) bytes
sent_more start before now bytes piece sent n rest was took =
    took
    ∙ ap (λ b. b ++ take n piece) was
    ∙ append_assoc start (take sent bytes) (take n piece)
    ∙ ap (λ t. start ++ t) (ap (λ t. take sent bytes ++ take n t) rest ∙ sym (take-add sent n bytes))

pub loop-sent-preserved : goal.loop-sent-preserved
loop-sent-preserved g c =
    let bytes : List ℕ = c.args.bytes.now in
    let sent : ℕ = c.loop-sent.sent in
    let left : ℕ = length bytes - sent in
    let rest : List ℕ = take left (drop sent bytes) in
    let within : c.in-Ok.n ≤ length rest = c.in-Ok.ensures.within in
    let was = c.loop-sent.invariant.took in
    record {
      within = omega (arith, within, length-take left (drop sent bytes), length-drop sent bytes);
      took = took_more _ _ _ bytes rest _ _ (take_rest bytes sent) was c.in-Ok.ensures.took;
      sent_so = sent_more _ _ _ bytes rest _ _ (take_rest bytes sent) c.loop-sent.invariant.sent_so c.in-Ok.ensures.sent;
      counts = omega arith;
    }
