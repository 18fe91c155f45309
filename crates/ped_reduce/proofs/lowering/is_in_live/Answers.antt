use Rattle.std.proofs.Common.{◌≡◌, ◌==◌, ℕ, List, true, false, sym, ap, ◌∙◌, arith}
use Rattle.std.specs.List.{list_any}
use Rattle.std.proofs.lemmas.List.{drop_all}
use Rattle.ped_tree.specs.Nests.{Loop}
use Rattle.ped_tree.specs.Views.{program_tree}
use Rattle.ped_refs.specs.Loops.{loop_of, nest_of}
use Rattle.ped_refs.specs.declared.loops.Loop.{Loop as CodeLoop}
use Rattle.ped_reduce.specs.Reducing.{is_live, is_in_live}
use Rattle.ped_reduce.specs.CodeLowered.{lowered_view}
use Rattle.ped_reduce.proofs.LoweringCode.{live_here, live_later}
use Rattle.ped_reduce.proofs.lowering.is_in_live.Goals as goal

pub loop-l-init : goal.loop-l-init
loop-l-init c =
    let p = lowered_view c.args.lowered.now in
    ap (λ (ls : List CodeLoop). list_any (is_live p) (nest_of ls)) c.deref-l-items.ensures.value
    ∙ ap (λ (nest : List Loop). list_any (is_live p) nest) c.in_ok-round.ensures

pub returns-then-contains : goal.returns-then-contains
returns-then-contains c =
    let p = lowered_view c.args.lowered.now in
    let l = c.l-item.result in
    let found : is_live p (loop_of l) ≡ true = ap (λ (ns : List ℕ). list_any (λ n. n == l.number) ns) (sym c.deref.ensures.value) ∙ sym c.contains.ensures.value ∙ c.if-contains.true in
    live_here p c.deref-l-items.result.now c.loop-l.l-index l c.loop-l-test.true c.l-item.is found (is_in_live (program_tree c.args.program.now) p c.args.number) c.loop-l.invariant

pub loop-l-preserved : goal.loop-l-preserved
loop-l-preserved c =
    let p = lowered_view c.args.lowered.now in
    let l = c.l-item.result in
    let none : is_live p (loop_of l) ≡ false = ap (λ (ns : List ℕ). list_any (λ n. n == l.number) ns) (sym c.deref.ensures.value) ∙ sym c.contains.ensures.value ∙ c.if-contains.false in
    live_later p c.deref-l-items.result.now c.loop-l.l-index l c.loop-l-test.true c.l-item.is none (is_in_live (program_tree c.args.program.now) p c.args.number) c.loop-l.invariant

pub returns : goal.returns
returns c =
    let p = lowered_view c.args.lowered.now in
    let left = drop_all c.loop-l.l-index c.deref-l-items.result.now (omega (arith, c.loop-l-test.false)) in
    ap (λ (ls : List CodeLoop). list_any (is_live p) (nest_of ls)) (sym left) ∙ c.loop-l.invariant
