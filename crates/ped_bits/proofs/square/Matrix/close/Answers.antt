use Rattle.std.proofs.Common.{◌≡◌, ℕ, ◌+◌, ◌↔◌, List, Bool, length, sym, subst, arith}
use Rattle.std.proofs.lemmas.List.{with_items_is}
use Rattle.ped_bits.specs.Reaching.{Arrow, Reaches}
use Rattle.ped_bits.proofs.Relations.{IsClosedBelow, GoesOver, at_first, next, at_last}
use Rattle.ped_bits.proofs.square.Matrix.close.Goals as goal

pub loop-middle-init : goal.loop-middle-init
loop-middle-init c = at_first c.self.inside.rows.items c.self.invariant

pub loop-middle-preserved : goal.loop-middle-preserved
loop-middle-preserved c =
    let old = c.self.inside.rows.items in
    let rows = c.loop-middle.self-inside.rows in
    let after = c.go_over.new.rows in
    let whole : length after ≡ rows.len = omega (arith, c.go_over.auto.rows, c.deref_mut.ensures.len) in
    let as_long : length after ≡ length rows.items = omega (arith, rows.ok) in
    let over = subst (λ (rs : List (List Bool)). GoesOver rs c.loop-middle.middle after) c.deref_mut.ensures.value c.go_over.ensures.arrows in
    subst (λ (rs : List (List Bool)). IsClosedBelow old (c.loop-middle.middle + 1) rs) (sym (with_items_is rows after whole))
    (next old rows.items after c.loop-middle.middle c.loop-middle.invariant as_long c.go_over.ensures.square over)

pub returns-clause-reaches : goal.returns-clause-reaches
returns-clause-reaches c =
    let old = c.self.inside.rows.items in
    let rows = c.loop-middle.self-inside.rows.items in
    let all : c.loop-middle.middle ≡ length old = omega (arith, c.self.inside.rows.ok) in
    subst (λ (before : List (List Bool)). (i j : ℕ) → Arrow rows i j ↔ Reaches before i j) c.self.view_is (at_last old rows c.loop-middle.middle c.self.invariant all c.loop-middle.invariant)
