use Rattle.std.proofs.Common.{rules, ◌≡◌, ℕ, ◌+◌, ◌-◌, ◌<◌, ◌^◌, [], ◌∷◌, ◌++◌, Bool, false, length, map, refl, sym, ap, ◌∙◌, arith, if◌then◌else◌}
use Rattle.ped_base.specs.Lists.{is_among}
use Rattle.ped_tree.specs.Names.Collecting.{with_name}
use Rattle.ped_tree.specs.Views.{decl_tree}
use Rattle.ped_links.specs.ped_units.specs.Expanding.{numbered_name, free_from, free_name}
use Rattle.ped_calls.proofs.FreeNames.{stopped, all_passed}
use Rattle.ped_calls.proofs.NumberedNames.{free_is_free}
use Rattle.ped_calls.proofs.giving.Given.new_name.Goals.{then-loop-left-test+else-contains, else-loop-left-test}
use Rattle.ped_calls.proofs.giving.Given.new_name.Goals as goal

pub loop-left-init : goal.loop-left-init
loop-left-init c =
    let taken = c.args.self.now.taken in
    let next = c.args.self.now.next in
    let r = c.requires in
    let long : length c.as_slice.result.now ≡ length taken = ap length c.as_slice.ensures in
    let left : c.saturating_sub-left.result ≡ length taken - (next - 1) = omega (arith, long, r.first, c.saturating_sub-left.ensures) in
    let passed = all_passed (next - 1) taken (length taken) (λ n p q. r.taken n p (omega (arith, q, r.first))) (omega (arith, r.first, r.few)) in
    let same : next ≡ next - 1 + 1 = omega (arith, r.first) in
    record {
      named = c.in_ok-name.ensures;
      taken = refl;
      arrays = refl;
      first = r.first;
      few = omega (arith, left, r.first, r.few);
      before = r.taken;
      free = ap (λ (m : ℕ). free_from m taken next) left ∙ ap (λ (n : ℕ). free_from (length taken - (next - 1)) taken n) same ∙ sym passed;
    }

pub returns-clause-given : goal.returns-clause-given
returns-clause-given c =
    let taken = c.args.self.now.taken in
    let at = c.loop-left in
    let v = at.invariant in
    let name_is : at.name ≡ free_name taken = elim c.loop-left-test.branch [
      | then-loop-left-test+else-contains w ↦
          let not_there : is_among (numbered_name at.self.next) taken ≡ false = (λ i. is_among (sym v.named i) (sym v.taken i)) ∙ sym w.contains.ensures ∙ w.if-contains.false in
          v.named ∙ sym (stopped at.left taken at.self.next not_there) ∙ v.free
      | else-loop-left-test w ↦
          let none : 0 ≡ at.left = omega (arith, w.loop-left-test.false) in
          v.named ∙ ap (λ (m : ℕ). free_from m taken at.self.next) none ∙ v.free
    ] in
    let long : length c.as_slice.result.now ≡ length taken = ap length c.as_slice.ensures in
    let small : length c.as_slice.result.now + 1 < 2 ^ 64 = search rules in
    let free = free_is_free taken (omega (arith, long, small)) in
    let taken_is : c.insert.new.self ≡ taken ++ free_name taken ∷ [] = c.in_ok-insert.ensures.ok
    ∙ (λ i. with_name (v.taken i) (name_is i))
    ∙ ap (λ (b : Bool). if b then taken else taken ++ free_name taken ∷ []) free in
    λ i. record { taken = taken_is i; arrays = map decl_tree (v.arrays i).items }
