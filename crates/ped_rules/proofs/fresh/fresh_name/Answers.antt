use Rattle.std.proofs.Common.{◌≡◌, ℕ, ◌+◌, ◌-◌, ◌<◌, ◌++◌, Bool, true, false, List, Some, sym, ap, ◌∙◌, arith, if◌then◌else◌}
use Rattle.std.specs.Fmt.{decimal}
use Rattle.ped_tree.specs.Views.{program_tree}
use Rattle.ped_rules.specs.Fresh.{occurs, first_free, numbered_names, most_numbered}
use Rattle.ped_rules.specs.CodeFresh.{letters_of}
use Rattle.ped_rules.proofs.FreshNames.{most_is, next_free, none_free}
use Rattle.ped_rules.proofs.fresh.fresh_name.Goals as goal

pub loop-n-init : goal.loop-n-init
loop-n-init c =
    let t = program_tree c.args.program.now in
    let m = most_is in
    record {
      free = ap (λ (count : ℕ). first_free t (numbered_names (letters_of c.args.kind) 1 count)) (omega arith);
      within = omega (arith, m);
    }

pub returns-then-not-occurs : goal.returns-then-not-occurs
returns-then-not-occurs c =
    let t = program_tree c.args.program.now in
    let n = c.loop-n.n in
    let m = most_is in
    let small : n < most_numbered + 1 = omega (arith, m, c.loop-n-test.true) in
    let name : List ℕ = letters_of c.args.kind ++ decimal n in
    let free : occurs t name ≡ false = ap (occurs t) (sym c.in_ok-name.ensures) ∙ sym c.occurs.ensures ∙ c.if-not-occurs.true in
    ap (λ (x : List ℕ). Some x) c.in_ok-name.ensures
    ∙ ap (λ (b : Bool). if b then first_free t (numbered_names (letters_of c.args.kind) (n + 1) (most_numbered + 1 - (n + 1))) else Some name) (sym free)
    ∙ sym (next_free (letters_of c.args.kind) t n small)
    ∙ c.loop-n.invariant.free

pub loop-n-preserved : goal.loop-n-preserved
loop-n-preserved c =
    let t = program_tree c.args.program.now in
    let n = c.loop-n.n in
    let m = most_is in
    let small : n < most_numbered + 1 = omega (arith, m, c.loop-n-test.true) in
    let name : List ℕ = letters_of c.args.kind ++ decimal n in
    let taken : occurs t name ≡ true = ap (occurs t) (sym c.in_ok-name.ensures) ∙ sym c.occurs.ensures ∙ c.if-not-occurs.false in
    record {
      free = ap (λ (b : Bool). if b then first_free t (numbered_names (letters_of c.args.kind) (n + 1) (most_numbered + 1 - (n + 1))) else Some name) (sym taken)
          ∙ sym (next_free (letters_of c.args.kind) t n small)
          ∙ c.loop-n.invariant.free;
      within = omega (arith, small);
    }

pub returns : goal.returns
returns c =
    let t = program_tree c.args.program.now in
    let m = most_is in
    sym (none_free (letters_of c.args.kind) t c.loop-n.n (omega (arith, m, c.loop-n-test.false))) ∙ c.loop-n.invariant.free

pub loop-n-smaller : goal.loop-n-smaller
loop-n-smaller c =
    let m = most_is in
    omega (arith, m, c.loop-n-test.true)
