-- In a valid program the body of a DO doesn't write the DO's variable.
use Rattle.std.proofs.Common.{◌≡◌, ℕ, List, [], ◌∷◌, ◌++◌, length, nat_lt, not, Bool, true, false, ◌||◌, refl, sym, ap, ◌∙◌, codes}
use Rattle.std.specs.List.{flat_map, list_all, list_any}
use Rattle.std.proofs.lemmas.Bool.{and_parts, both_ways, or_parts}
use Rattle.ped_base.proofs.NameEquality.{same_is}
use Rattle.ped_base.specs.Lists.{is_among, is_same_text}
use Rattle.ped_tree.proofs.NameLaws.Collected.{among_append}
use Rattle.ped_tree.specs.Accesses.{constant_names}
use Rattle.ped_tree.specs.Grammar.Words.{is_name}
use Rattle.ped_tree.specs.Tree.{ExprTree, Int, Var, Element, Neg, Add, Sub, Mul, Div, Pow, Call, Head, StmtTree, StmtTrees, Assign, If, Do, Print, Read, Stop, Comment, no_stmts, more_stmts, ProgramTree}
use Rattle.ped_tree.specs.Grammar.Fits.{Surroundings, loop_fits, stmts_fit, private_fits, in_loop, expr_fits}
use Rattle.ped_tree.specs.Grammar.LimitNumbers.{most_loops_nested, most_blocks_nested}
use Rattle.ped_rules.proofs.NameLaws.SubstitutedReferences.{other_unwritten}
use Rattle.ped_rules.specs.ped_loop_runs.proofs.TidyLaws.TidyReferencesGaps.{each_of_program}
use Rattle.ped_rules.specs.ped_loop_runs.specs.Writing.{all_write, writes, writes_left, writes_name}
use Rattle.ped_rules.specs.ped_steps.proofs.RunLaws.ProgramParts.{part_at}
use Rattle.ped_rules.specs.ped_steps.proofs.RunLaws.SparedVariables.{IsUnassigned, variables_unassigned}
use Rattle.ped_rules.specs.ped_affine.specs.Assigned.{assigned_left, assigned_in, assigned_in_all}
use Rattle.ped_rules.specs.ped_flow.specs.Questions.{LoopOf}
use Rattle.ped_rules.specs.ped_symbols.specs.Kinds.{kind_in}
use Rattle.ped_rules.specs.ped_symbols.specs.NameRefusals.{IsValid}

module _ (cs : List (List ℕ)) (w : List ℕ) (name : is_name w ≡ true) where
  -- what is no name isn't this one
  no_name : (y : List ℕ) → is_name y ≡ false → is_same_text w y ≡ false
  no_name y none = go (is_same_text w y) refl
    where
      go : (b : Bool) → is_same_text w y ≡ b → b ≡ false
      go true e = absurd (both_ways (is_name y) none (ap is_name (sym (same_is w y e)) ∙ name))
      go false e = refl

  neither : (xs ys : List (List ℕ)) → is_among w (xs ++ ys) ≡ false → (is_among w xs ≡ false) × (is_among w ys ≡ false)
  neither xs ys h = or_parts (is_among w xs) (is_among w ys) (sym (among_append w xs ys) ∙ h)

  left_unassigned : (e : ExprTree) → is_among w (assigned_left e) ≡ false → writes_left cs w e ≡ false
  left_unassigned (Var y) h = other_unwritten cs w y (or_parts (is_same_text w y) false h).0
  left_unassigned (Element y es) h = other_unwritten cs w y (or_parts (is_same_text w y) false h).0
  left_unassigned (Int n) h = refl
  left_unassigned (Neg a) h = refl
  left_unassigned (Add a b) h = refl
  left_unassigned (Sub a b) h = refl
  left_unassigned (Mul a b) h = refl
  left_unassigned (Div a b) h = refl
  left_unassigned (Pow a b) h = refl
  left_unassigned (Call f es) h = refl

  lefts_unassigned : (items : List ExprTree) → is_among w (flat_map assigned_left items) ≡ false → list_any (writes_left cs w) items ≡ false
  lefts_unassigned [] h = refl
  lefts_unassigned (e ∷ items) h = let parts = neither (assigned_left e) (flat_map assigned_left items) h in λ i. left_unassigned e parts.0 i || lefts_unassigned items parts.1 i

  private_unassigned : (xs : List (List ℕ)) → is_among w xs ≡ false → list_any (writes_name cs w) xs ≡ false
  private_unassigned [] h = refl
  private_unassigned (y ∷ xs) h = let parts = or_parts (is_same_text w y) (is_among w xs) h in λ i. other_unwritten cs w y parts.0 i || private_unassigned xs parts.1 i

  mutual
    unassigned : (s : StmtTree) → is_among w (assigned_in s) ≡ false → writes cs w s ≡ false
    unassigned (Assign left right) h = left_unassigned left h
    unassigned (If c a b) h = let parts = neither (assigned_in_all a) (assigned_in_all b) h in λ i. all_unassigned a parts.0 i || all_unassigned b parts.1 i
    unassigned (Do g body) h =
        let first = or_parts (is_same_text w g.variable) (is_among w (g.private ++ assigned_in_all body)) h in
        let parts = neither g.private (assigned_in_all body) first.1 in
        λ i. private_unassigned g.private parts.0 i || all_unassigned body parts.1 i
    unassigned (Print items) h = no_name (codes "(OUT)") refl
    unassigned (Read items) h = λ i. no_name (codes "(IN)") refl i || lefts_unassigned items h i
    unassigned Stop h = refl
    unassigned (Comment text) h = refl

    -- what isn't assigned isn't written
    pub all_unassigned : (ss : StmtTrees) → is_among w (assigned_in_all ss) ≡ false → all_write cs w ss ≡ false
    all_unassigned no_stmts h = refl
    all_unassigned (more_stmts s rest) h = let parts = neither (assigned_in s) (assigned_in_all rest) h in λ i. unassigned s parts.0 i || all_unassigned rest parts.1 i

-- the variable of a DO that fits is a name
variable_name : (p : Surroundings) (h : Head) (body : StmtTrees) → loop_fits p h body ≡ true → is_name h.variable ≡ true
variable_name p h body f =
    let a = and_parts _ (list_all is_name h.rejected) f in
    let b = and_parts _ (private_fits p h) a.0 in
    let c = and_parts _ (nat_lt p.depth most_blocks_nested) b.0 in
    let d = and_parts _ (nat_lt (length p.variables) most_loops_nested) c.0 in
    let e = and_parts _ (not (is_among h.variable p.private)) d.0 in
    let g = and_parts _ (not (is_among h.variable p.variables)) e.0 in
    let i = and_parts _ (expr_fits h.step) g.0 in
    let j = and_parts _ (expr_fits h.last) i.0 in
    let k = and_parts _ (expr_fits h.first) j.0 in
    (and_parts _ (is_name h.variable) k.0).1

pub named_variable : (t : ProgramTree) → IsValid t → (l : ℕ) (loop : LoopOf t l) → is_name loop.head.variable ≡ true
named_variable t valid l loop =
    let part = part_at t valid l (Do loop.head loop.body) loop.is in
    variable_name part.around loop.head loop.body (and_parts (loop_fits part.around loop.head loop.body) (stmts_fit (in_loop part.around loop.head) loop.body) part.fits).0

pub own_unwritten : (t : ProgramTree) → IsValid t → (l : ℕ) (loop : LoopOf t l) → all_write (constant_names t.decls) loop.head.variable loop.body ≡ false
own_unwritten t valid l loop =
    all_unassigned (constant_names t.decls) loop.head.variable (named_variable t valid l loop) loop.body (each_of_program (IsUnassigned t (kind_in t)) t (variables_unassigned t valid) l loop).1
