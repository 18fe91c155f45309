-- What names stand for in a program in which the inner of two DO loops is skewed: the same, for the names that come and go occur in the heads of the two.
use Rattle.std.proofs.Common.{◌≡◌, ℕ, ℤ, ◌+ℤ◌, ◌-ℤ◌, List, [], ◌∷◌, ◌++◌, Bool, true, false, ◌||◌, ◌==◌, Option, Some, None, refl, sym, ap, ◌∙◌, subst, append-nil, if◌then◌else◌}
use Rattle.std.specs.Prelude.{unsigned_abs}
use Rattle.std.specs.Int.{is_negative}
use Rattle.std.proofs.lemmas.Bool.{both_ways, or_right}
use Rattle.ped_base.specs.Lists.{is_same_text, is_among}
use Rattle.ped_tree.specs.NamesIn.{expr_names, head_names, stmt_names, stmts_names}
use Rattle.ped_tree.specs.Numbering.{statement_with}
use Rattle.ped_tree.specs.Tree.{ExprTree, Int, Var, Add, Sub, Mul, Head, StmtTree, StmtTrees, Do, ProgramTree}
use Rattle.ped_rules.specs.ped_flow.specs.Questions.{LoopOf}
use Rattle.ped_rules.specs.ped_symbols.specs.Kinds.{names_of, kind_in}
use Rattle.ped_rules.specs.ped_symbols.specs.NameRefusals.{IsValid}
use Rattle.ped_rules.specs.ped_symbols.specs.Sites.{stmt_sites, stmts_sites}
use Rattle.ped_rules.specs.ped_symbols.proofs.RightUseLaws.Whole.{same_kinds}
use Rattle.ped_symbolic.specs.Arithmetic.{literal_value, of_both, small, computed, literal_or, is_zero, added, subtracted, plus_of, minus_of}
use Rattle.ped_symbolic.specs.Substitution.{statements_substituted}
use Rattle.ped_rules.specs.ped_steps.specs.Replacing.{alone, program_with}
use Rattle.ped_rules.specs.ped_steps.proofs.RunLaws.NamesKept.{occurs, Alike, AreAlike, by_sites, names_kept}
use Rattle.ped_rules.specs.ped_steps.proofs.RunLaws.NamesAtSites.{stmt_at}
use Rattle.ped_rules.specs.ped_steps.proofs.RunLaws.SubstitutedNames.{in_stmts}
use Rattle.ped_rules.specs.ped_steps.proofs.RunLaws.LoopVariables.{variable_scalar}
use Rattle.ped_rules.specs.ped_steps.proofs.RunLaws.ScalarNames.{scalar_occurs, statement_in}
use Rattle.ped_rules.specs.ped_steps.proofs.RunLaws.SubstitutedSums.{by_shape}
use Rattle.ped_tree.proofs.NameLaws.Collected.{among_append}
use Rattle.ped_rules.specs.OnlyLoops.{only_loop}
use Rattle.ped_rules.proofs.NestLaws.OnlyBodies.{pair, only_tells}
use Rattle.ped_reindex.specs.Skewing.{offset, skewed_bound, unskewed, skewed_head}

or_false : (b : Bool) → b || false ≡ b
or_false true = refl
or_false false = refl

-- an offset is no literal
record IsOpen (e : ExprTree) : Type 0 where
  valueless : literal_value e ≡ None
  some : is_zero e ≡ false
  plus : (a : ExprTree) → added a e ≡ Add a e
  minus : (a : ExprTree) → subtracted a e ≡ Sub a e

offset_open : (f : ℤ) (i : List ℕ) → IsOpen (offset f i)
offset_open f i = go (unsigned_abs f == 1)
  where
    go : (b : Bool) → IsOpen (if b then Var i else Mul (Int (unsigned_abs f)) (Var i))
    go true = record { valueless = refl; some = refl; plus = λ a. refl; minus = λ a. refl }
    go false = record { valueless = refl; some = refl; plus = λ a. refl; minus = λ a. refl }

offset_names : (f : ℤ) (i : List ℕ) → expr_names (offset f i) ≡ i ∷ []
offset_names f i = go (unsigned_abs f == 1)
  where
    go : (b : Bool) → expr_names (if b then Var i else Mul (Int (unsigned_abs f)) (Var i)) ≡ i ∷ []
    go true = refl
    go false = refl

none_computed : (op : ℤ → ℤ → ℤ) (a e : ExprTree) → literal_value e ≡ None → computed op a e ≡ None
none_computed op a e none = ap (λ (o : Option ℤ). small (of_both op (literal_value a) o)) none ∙ go (literal_value a)
  where
    go : (o : Option ℤ) → small (of_both op o None) ≡ None
    go None = refl
    go (Some m) = refl

zero_names : (e : ExprTree) → is_zero e ≡ true → expr_names e ≡ []
zero_names = by_shape (λ (e : ExprTree). is_zero e ≡ true → expr_names e ≡ []) (λ n q. refl) (λ n q. refl) (λ e none zero plus minus q. absurd (both_ways (is_zero e) zero q))

module _ (f : ℤ) (i y : List ℕ) (other : is_same_text y i ≡ false) where
  apart : is_among y (expr_names (offset f i)) ≡ false
  apart = ap (is_among y) (offset_names f i) ∙ (λ z. other z || false)

  plus_names : (a : ExprTree) → is_among y (expr_names (plus_of a (offset f i))) ≡ is_among y (expr_names a)
  plus_names a =
      (λ z. is_among y (expr_names (literal_or (none_computed ◌+ℤ◌ a (offset f i) (offset_open f i).valueless z) (if (offset_open f i).some z then a else (if is_zero a then offset f i else (offset_open f i).plus a z)))))
      ∙ go (is_zero a) refl
    where
      go : (b : Bool) → is_zero a ≡ b → is_among y (expr_names (if b then offset f i else Add a (offset f i))) ≡ is_among y (expr_names a)
      go true q = apart ∙ sym (ap (is_among y) (zero_names a q))
      go false q = among_append y (expr_names a) (expr_names (offset f i)) ∙ (λ z. is_among y (expr_names a) || apart z) ∙ or_false (is_among y (expr_names a))

  minus_names : (a : ExprTree) → is_among y (expr_names (minus_of a (offset f i))) ≡ is_among y (expr_names a)
  minus_names a =
      (λ z. is_among y (expr_names (literal_or (none_computed ◌-ℤ◌ a (offset f i) (offset_open f i).valueless z) (if (offset_open f i).some z then a else (offset_open f i).minus a z))))
      ∙ among_append y (expr_names a) (expr_names (offset f i)) ∙ (λ z. is_among y (expr_names a) || apart z) ∙ or_false (is_among y (expr_names a))

  bound_names : (a : ExprTree) → is_among y (expr_names (skewed_bound f i a)) ≡ is_among y (expr_names a)
  bound_names a = go (is_negative f)
    where
      go : (b : Bool) → is_among y (expr_names (if b then minus_of a (offset f i) else plus_of a (offset f i))) ≡ is_among y (expr_names a)
      go true = minus_names a
      go false = plus_names a

  among_both : (xs ys us vs : List (List ℕ)) → is_among y xs ≡ is_among y us → is_among y ys ≡ is_among y vs → is_among y (xs ++ ys) ≡ is_among y (us ++ vs)
  among_both xs ys us vs h k = among_append y xs ys ∙ (λ z. h z || k z) ∙ sym (among_append y us vs)

  -- in the inner head
  head_kept : (g : Head) → is_among y (head_names (skewed_head f i g)) ≡ is_among y (head_names g)
  head_kept g =
      let first = expr_names (skewed_bound f i g.first) in
      let last = expr_names (skewed_bound f i g.last) in
      let two = among_both first last (expr_names g.first) (expr_names g.last) (bound_names g.first) (bound_names g.last) in
      let three = among_both (first ++ last) (expr_names g.step) (expr_names g.first ++ expr_names g.last) (expr_names g.step) two refl in
      let all = among_both (first ++ last ++ expr_names g.step) g.private (expr_names g.first ++ expr_names g.last ++ expr_names g.step) g.private three refl in
      among_both g.rejected (g.variable ∷ (first ++ last ++ expr_names g.step ++ g.private)) g.rejected (g.variable ∷ (expr_names g.first ++ expr_names g.last ++ expr_names g.step ++ g.private)) refl (ap (λ (b : Bool). is_same_text y g.variable || b) all)

  -- in the body
  unskewed_names : (j : List ℕ) → is_same_text y j ≡ false → is_among y (expr_names (unskewed f i j)) ≡ false
  unskewed_names j e = go (is_negative f)
    where
      both : is_among y ((j ∷ []) ++ expr_names (offset f i)) ≡ false
      both = λ z. e z || apart z

      go : (b : Bool) → is_among y (expr_names (if b then Add (Var j) (offset f i) else Sub (Var j) (offset f i))) ≡ false
      go true = both
      go false = both

  body_kept : (j : List ℕ) (body : StmtTrees) → is_same_text y j ≡ false → is_among y (stmts_names (statements_substituted j (unskewed f i j) body)) ≡ is_among y (stmts_names body)
  body_kept j body e = in_stmts j (unskewed f i j) y e (unskewed_names j e) body

-- the variable of a DO is among the names of its head
own_name_there : (y : List ℕ) (g : Head) → is_same_text y g.variable ≡ true → is_among y (head_names g) ≡ true
own_name_there y g e =
    among_append y g.rejected (g.variable ∷ (expr_names g.first ++ expr_names g.last ++ expr_names g.step ++ g.private))
    ∙ (λ z. is_among y g.rejected || (e z || is_among y (expr_names g.first ++ expr_names g.last ++ expr_names g.step ++ g.private)))
    ∙ or_right (is_among y g.rejected) true refl

module _ (t : ProgramTree) (valid : IsValid t) (l : ℕ) (loop : LoopOf t l) (g : Head) (inside other_body : StmtTrees) (f : ℤ) (only : only_loop loop.body ≡ Some (pair g inside))
    (new_only : only_loop other_body ≡ Some (pair (skewed_head f loop.head.variable g) (statements_substituted g.variable (unskewed f loop.head.variable g.variable) inside))) where
  abbrev i : List ℕ
  i = loop.head.variable

  abbrev j : List ℕ
  j = g.variable

  abbrev by : StmtTree → StmtTrees
  by s = alone (Do loop.head other_body)

  in_loops : (y : List ℕ) (h : Head) (body others : StmtTrees) → only_loop body ≡ Some (pair h others) → occurs y (stmt_sites (Do loop.head body)) ≡ is_among y (head_names loop.head) || (is_among y (head_names h) || is_among y (stmts_names others))
  in_loops y h body others one =
      ap (is_among y) (stmt_at (Do loop.head body))
      ∙ among_append y (head_names loop.head) (stmts_names body)
      ∙ (λ z. is_among y (head_names loop.head) || is_among y (only_tells h others stmt_names stmts_names (λ (xs ys : List (List ℕ)). xs ++ ys) [] (λ xs. refl) (λ xs. append-nil xs) refl (λ s rest. refl) (λ text. refl) body one z))
      ∙ (λ z. is_among y (head_names loop.head) || among_append y (head_names h) (stmts_names others) z)

  abbrev rest : List ℕ → Bool
  rest y = is_among y (head_names (skewed_head f i g)) || is_among y (stmts_names (statements_substituted j (unskewed f i j) inside))

  abbrev old_rest : List ℕ → Bool
  old_rest y = is_among y (head_names g) || is_among y (stmts_names inside)

  -- but for the outer variable the same names occur
  rests : (y : List ℕ) → is_same_text y i ≡ false → rest y ≡ old_rest y
  rests y other = go (is_same_text y j) refl
    where
      go : (b : Bool) → is_same_text y j ≡ b → rest y ≡ old_rest y
      go true e =
          (λ z. own_name_there y (skewed_head f i g) e z || is_among y (stmts_names (statements_substituted j (unskewed f i j) inside)))
          ∙ sym (λ z. own_name_there y g e z || is_among y (stmts_names inside))
      go false e = λ z. head_kept f i y other g z || body_kept f i y other j inside e z

  sites_alike : (y : List ℕ) → AreAlike i y (stmts_sites (alone (Do loop.head other_body))) (stmt_sites (Do loop.head loop.body))
  sites_alike y =
      by_sites i y (stmt_sites (Do loop.head other_body) ++ []) (stmt_sites (Do loop.head other_body)) (stmt_sites (Do loop.head loop.body)) (append-nil (stmt_sites (Do loop.head other_body)))
      (subst (λ (b : Bool). Alike (is_same_text y i) b (occurs y (stmt_sites (Do loop.head loop.body)))) (sym (in_loops y (skewed_head f i g) other_body (statements_substituted j (unskewed f i j) inside) new_only))
      (subst (λ (b : Bool). Alike (is_same_text y i) (is_among y (head_names loop.head) || rest y) b) (sym (in_loops y g loop.body inside only)) (go (is_same_text y i) refl)))
    where
      go : (e : Bool) → is_same_text y i ≡ e → Alike e (is_among y (head_names loop.head) || rest y) (is_among y (head_names loop.head) || old_rest y)
      go true q = record {
        but = or_right (is_among y (head_names loop.head) || rest y) true refl ∙ sym (or_right (is_among y (head_names loop.head) || old_rest y) true refl);
        kept = λ k. (λ z. own_name_there y loop.head q z || rest y);
      }
      go false q = record {
        but = λ z. (is_among y (head_names loop.head) || rests y q z) || false;
        kept = λ k. (λ z. is_among y (head_names loop.head) || rests y q z) ∙ k;
      }

  of_it : (y : List ℕ) (old : StmtTree) → statement_with l t ≡ Some old → AreAlike i y (stmts_sites (by old)) (stmt_sites old)
  of_it y old there =
      let is : Do loop.head loop.body ≡ old = ap (statement_in (Do loop.head loop.body)) (sym loop.is ∙ there) in
      subst (λ (z : StmtTree). AreAlike i y (stmts_sites (alone (Do loop.head other_body))) (stmt_sites z)) is (sites_alike y)

  same_names : (y : List ℕ) → is_among y (names_of (program_with by l t)) ≡ is_among y (names_of t)
  same_names y = names_kept i y by l t (of_it y) (scalar_occurs t i (variable_scalar t valid l loop))

  pub skewed_kinds : (y : List ℕ) → kind_in (program_with by l t) y ≡ kind_in t y
  skewed_kinds = same_kinds t (program_with by l t) refl same_names
