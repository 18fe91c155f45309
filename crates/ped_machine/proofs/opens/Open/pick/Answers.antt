-- Which iteration is picked, by what the marks tell.
use Rattle.std.proofs.Common.{◌≡◌, ℕ, List, [], ◌∷◌, length, true, false, Option, Some, None, eqb, eqb-true, eq-eqb, refl, sym, ap, ◌∙◌}
use Rattle.ped_tree.specs.declared.statements.Stmt.{Stmt}
use Rattle.ped_tree.specs.Tree.{no_stmts}
use Rattle.ped_tree.specs.Views.{stmt_tree, stmt_trees}
use Rattle.ped_interleavings.specs.Lefts.{unfinished, or_else}
use Rattle.ped_machine.specs.Parts.{IsWithoutComments}
use Rattle.ped_machine.specs.Opens.{lefts_of, place_left, is_bare}
use Rattle.ped_machine.proofs.Opening.{bare_without, real_without, bare_picks, marks_tell}
use Rattle.ped_machine.proofs.opens.Open.pick.Goals as goal

bare : (body new items : List Stmt) → items ≡ body → IsWithoutComments (stmt_trees items) (stmt_trees new) → length new ≡ 0 → is_bare (stmt_trees body) ≡ true
bare body [] items q h e = ap (λ (ss : List Stmt). is_bare (stmt_trees ss)) (sym q) ∙ bare_without (stmt_trees items) no_stmts h refl
bare body (x ∷ xs) items q h e = absurd cc

real : (body new items : List Stmt) → items ≡ body → IsWithoutComments (stmt_trees items) (stmt_trees new) → (length new ≡ 0 → ⊥) → is_bare (stmt_trees body) ≡ false
real body [] items q h e = absurd (e refl)
real body (x ∷ xs) items q h e =
    ap (λ (ss : List Stmt). is_bare (stmt_trees ss)) (sym q) ∙ real_without (stmt_trees items) (stmt_trees (x ∷ xs)) (stmt_tree x) (stmt_trees xs) h refl

not_empty : (n : ℕ) → false ≡ eqb n 0 → n ≡ 0 → ⊥
not_empty n e q = let w : true ≡ false = sym (eq-eqb n 0 q) ∙ sym e in cc

pub returns-then-is_empty : goal.returns-then-is_empty
returns-then-is_empty g c scope table stands h =
    bare_picks g.C.Work.left g.C.Work.base g.C.Work.sound scope table stands c.args.self.now h c.args.place
    (bare c.args.self.now.d.now.body.items c.without_comments.result.now c.deref.result.now c.deref.ensures.value c.without_comments.ensures (eqb-true (length c.without_comments.result.now) 0 (sym c.if-is_empty.ensures)))

pub returns-in-Some : goal.returns-in-Some
returns-in-Some g c scope table stands h =
    let lefts = lefts_of c.args.self.now.plan.count (place_left g.C.Work.left scope c.args.self.now) in
    let b = real c.args.self.now.d.now.body.items c.without_comments.result.now c.deref.result.now c.deref.ensures.value c.without_comments.ensures (not_empty (length c.without_comments.result.now) c.if-is_empty.ensures) in
    ap (λ (o : Option ℕ). or_else o (unfinished 0 lefts)) (marks_tell g.C.Work.left g.C.Work.base g.C.Work.sound scope table stands c.args.self.now h c.args.place (Some c.in-Some.found) b c.in-Some.ensures)

pub returns-in-None : goal.returns-in-None
returns-in-None g c scope table stands h =
    let lefts = lefts_of c.args.self.now.plan.count (place_left g.C.Work.left scope c.args.self.now) in
    let b = real c.args.self.now.d.now.body.items c.without_comments.result.now c.deref.result.now c.deref.ensures.value c.without_comments.ensures (not_empty (length c.without_comments.result.now) c.if-is_empty.ensures) in
    marks_tell g.C.Work.left g.C.Work.base g.C.Work.sound scope table stands c.args.self.now h 0 c.unfinished-in-None.result b c.unfinished-in-None.ensures
    ∙ ap (λ (o : Option ℕ). or_else o (unfinished 0 lefts)) (marks_tell g.C.Work.left g.C.Work.base g.C.Work.sound scope table stands c.args.self.now h c.args.place None b c.in-None.ensures)
