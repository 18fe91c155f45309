use Rattle.std.proofs.Common.{◌≡◌, ◌∙◌, ◌+◌, ℕ, suc, ap, sym, List, length, drop, Some, slice_get, rules, arith}
use Rattle.std.specs.List.{count_by}
use Rattle.ped_tree.specs.Views.{program_tree}
use Rattle.ped_refs.specs.References.{Reference, references, pairs}
use Rattle.ped_refs.specs.Occurrences.{references_of, pair_at}
use Rattle.ped_graph.specs.Dependences.{facts_of, view_of}
use Rattle.ped_graph.specs.Held.{HeldFrame, Pair, framed, frame_of, held_of, views_of}
use Rattle.ped_update.specs.Fresh.{is_fresh}
use Rattle.ped_update.specs.Matching.{slots_for, kept_from}
use Rattle.ped_graph.proofs.Places.{next_listed, index_there, same_length}
use Rattle.ped_graph.proofs.Slices.{mapped_at, length_mapped}
use Rattle.ped_update.proofs.Yielded.{no_pairs}
use Rattle.ped_update.proofs.OneMore.{front_there, next_slots, next_kept, next_tests, front_tests, all_matched, all_ticks}
use Rattle.ped_update.proofs.matching.match_pairs.Goals as goal

pub loop-pair-init : goal.loop-pair-init
loop-pair-init g c =
    let G = c.args.former.now.graph.now in
    let t = program_tree c.args.changed.now.known.program.now in
    let none = sym (no_pairs (frame_of t).pairs) in
    record {
      frame = c.requires.frame;
      many = ap length c.requires.slots;
      least = omega arith;
      round = search rules;
      slots = λ keep once table. c.requires.slots ∙ ap (λ (ps : List Pair). slots_for G keep ps) none;
      kept = λ keep once table. c.requires.kept ∙ ap (λ (ps : List Pair). kept_from G keep 0 ps) none;
      steps = λ keep once table. (let zero = ap (λ (ps : List Pair). count_by (is_fresh G keep) ps) (sym none) in omega (arith, zero));
    }

pub match_pair-requires-clause-next : goal.match_pair-requires-clause-next
match_pair-requires-clause-next g c =
    let t = program_tree c.args.changed.now.known.program.now in
    let refs = references_of c.args.changed.now.known.found.now in
    let ps = pairs (references t) in
    let long = same_length (pair_at refs) c.args.listed.now ps c.requires.listed in
    let below = c.loop-pair-test.true in
    let many = c.loop-pair.invariant.many in
    let framed_all = length_mapped (λ (p : Reference × Reference). framed (facts_of t) p.0 p.1) ps in
    let frame = ap (λ (h : HeldFrame). length h.pairs) c.loop-pair.invariant.frame in
    omega (arith, long, below, many, framed_all, frame)

pub loop-pair-preserved : goal.loop-pair-preserved
loop-pair-preserved g c =
    let G = c.args.former.now.graph.now in
    let t = program_tree c.args.changed.now.known.program.now in
    let refs = references_of c.args.changed.now.known.found.now in
    let ps = pairs (references t) in
    let i = c.loop-pair.pair-index in
    let inv = c.loop-pair.invariant in
    let next = next_listed (pair_at refs) c.args.listed.now ps i _ c.requires.listed (index_there c.args.listed.now i _ c.loop-pair-test.true) in
    let here : slice_get ps i ≡ Some next.0 = front_there ps i next.0 (drop (suc i) ps) next.2 in
    let f = framed (facts_of t) next.0.0 next.0.1 in
    let view = view_of t next.0.0 next.0.1 in
    let at : slice_get (frame_of t).pairs i ≡ Some f = mapped_at (λ (p : Reference × Reference). framed (facts_of t) p.0 p.1) ps i next.0 here in
    let there : slice_get (views_of t) i ≡ Some view = mapped_at (λ (p : Reference × Reference). view_of t p.0 p.1) ps i next.0 here in
    let now : slice_get c.loop-pair.parts.frame.pairs (length c.loop-pair.parts.slots) ≡ Some f = ap (λ (h : HeldFrame). slice_get h.pairs (length c.loop-pair.parts.slots)) inv.frame ∙ ap (λ (n : ℕ). slice_get (frame_of t).pairs n) inv.many ∙ at in
    record {
      frame = c.match_pair.ensures.frame ∙ inv.frame;
      many = c.in_ok-match_pair.ensures.many ∙ ap (λ (n : ℕ). n + 1) inv.many;
      least = (let more = c.match_pair.ensures.least in let least = inv.least in omega (arith, more, least));
      round = c.in_ok-enter.ensures.round;
      slots = λ keep once table. next_slots G keep (frame_of t).pairs (views_of t) i view f at there c.loop-pair.parts _ (inv.slots keep once table) (c.in_ok-match_pair.ensures.parts keep f next.0 once table next.1 now);
      kept = λ keep once table. next_kept G keep (frame_of t).pairs (views_of t) i view f at there c.loop-pair.parts _ inv.many (inv.kept keep once table) (c.in_ok-match_pair.ensures.parts keep f next.0 once table next.1 now);
      steps = λ keep once table.
          (let before = inv.steps keep once table in let ticks = c.in_ok-match_pair.ensures.ticks keep f next.0 once table next.1 now in
          let more = next_tests G keep (frame_of t).pairs (views_of t) i view f at there in omega (arith, before, ticks, more));
    }

pub returns-in_err-enter-clause-most : goal.returns-in_err-enter-clause-most
returns-in_err-enter-clause-most g c = λ keep once table.
    let t = program_tree c.args.changed.now.known.program.now in
    let steps = c.loop-pair.invariant.steps keep once table in
    let few = front_tests c.args.former.now.graph.now keep (frame_of t).pairs (views_of t) c.loop-pair.pair-index in
    omega (arith, few, steps)

pub returns-in_err-match_pair-clause-most : goal.returns-in_err-match_pair-clause-most
returns-in_err-match_pair-clause-most g c = λ keep once table.
    let G = c.args.former.now.graph.now in
    let t = program_tree c.args.changed.now.known.program.now in
    let refs = references_of c.args.changed.now.known.found.now in
    let ps = pairs (references t) in
    let i = c.loop-pair.pair-index in
    let inv = c.loop-pair.invariant in
    let next = next_listed (pair_at refs) c.args.listed.now ps i _ c.requires.listed (index_there c.args.listed.now i _ c.loop-pair-test.true) in
    let here : slice_get ps i ≡ Some next.0 = front_there ps i next.0 (drop (suc i) ps) next.2 in
    let f = framed (facts_of t) next.0.0 next.0.1 in
    let view = view_of t next.0.0 next.0.1 in
    let at : slice_get (frame_of t).pairs i ≡ Some f = mapped_at (λ (p : Reference × Reference). framed (facts_of t) p.0 p.1) ps i next.0 here in
    let there : slice_get (views_of t) i ≡ Some view = mapped_at (λ (p : Reference × Reference). view_of t p.0 p.1) ps i next.0 here in
    let now : slice_get c.loop-pair.parts.frame.pairs (length c.loop-pair.parts.slots) ≡ Some f = ap (λ (h : HeldFrame). slice_get h.pairs (length c.loop-pair.parts.slots)) inv.frame ∙ ap (λ (n : ℕ). slice_get (frame_of t).pairs n) inv.many ∙ at in
    let before = inv.steps keep once table in
    let most = c.match_pair.ensures.most keep f next.0 once table next.1 now in
    let more = next_tests G keep (frame_of t).pairs (views_of t) i view f at there in
    let few = front_tests G keep (frame_of t).pairs (views_of t) (i + 1) in
    omega (arith, before, most, more, few)

pub returns-clause-parts : goal.returns-clause-parts
returns-clause-parts g c = λ keep once table.
    let t = program_tree c.args.changed.now.known.program.now in
    let refs = references_of c.args.changed.now.known.found.now in
    let ps = pairs (references t) in
    let long = same_length (pair_at refs) c.args.listed.now ps c.requires.listed in
    let past = c.loop-pair-test.false in
    let many = length_mapped (λ (p : Reference × Reference). view_of t p.0 p.1) ps in
    let inv = c.loop-pair.invariant in
    all_matched c.args.former.now.graph.now keep (held_of t) c.loop-pair.parts c.loop-pair.pair-index (omega (arith, long, past, many)) inv.frame (inv.slots keep once table) (inv.kept keep once table)

pub returns-clause-ticks : goal.returns-clause-ticks
returns-clause-ticks g c = λ keep once table.
    let t = program_tree c.args.changed.now.known.program.now in
    let refs = references_of c.args.changed.now.known.found.now in
    let ps = pairs (references t) in
    let long = same_length (pair_at refs) c.args.listed.now ps c.requires.listed in
    let past = c.loop-pair-test.false in
    let many = length_mapped (λ (p : Reference × Reference). view_of t p.0 p.1) ps in
    all_ticks c.args.former.now.graph.now keep (held_of t) c.loop-pair.pair-index _ _ (omega (arith, long, past, many)) (c.loop-pair.invariant.steps keep once table)

pub returns-clause-most : goal.returns-clause-most
returns-clause-most g c = λ keep once table.
    let t = program_tree c.args.changed.now.known.program.now in
    let steps = c.loop-pair.invariant.steps keep once table in
    let few = front_tests c.args.former.now.graph.now keep (frame_of t).pairs (views_of t) c.loop-pair.pair-index in
    omega (arith, few, steps)
