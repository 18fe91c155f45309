-- Statements of a unit with what stands for each name: nothing but a limit is refused at them, where it is at none of the unit and names stand for what they may.
use Rattle.std.proofs.Common.{◌≡◌, ℕ, suc, ◌+◌, ℤ, List, [], ◌∷◌, ◌++◌, map, Bool, true, false, Option, Some, None, refl, sym, ap, ◌∙◌, subst, ◌⊎◌, inl, inr, arith, if◌then◌else◌}
use Rattle.std.specs.Prelude.{◌&&◌, unsigned_abs}
use Rattle.std.specs.Int.{is_negative}
use Rattle.std.specs.List.{list_all, flat_map}
use Rattle.std.proofs.lemmas.Bool.{and_parts}
use Rattle.ped_base.specs.Lists.{is_among}
use Rattle.ped_tree.specs.Accesses.{listed}
use Rattle.ped_tree.specs.Constants.ConstantExpressions.{constant_value}
use Rattle.ped_tree.specs.Constants.NamedConstants.{value_named}
use Rattle.ped_tree.specs.Grammar.Fits.{takes_arguments, has_expr, expr_fits, exprs_fit, target_fits, cond_fits, item_fits, Surroundings, in_if, in_loop, moved, stmt_fits, stmts_fit}
use Rattle.ped_tree.specs.NamesIn.{expr_names, exprs_names, cond_names, item_names, private_names_in, all_private_names_in}
use Rattle.ped_tree.specs.Numbering.{statement_count, statements_count}
use Rattle.ped_tree.specs.Tree.{ExprTree, ExprTrees, Int, Var, Element, Neg, Add, Sub, Mul, Div, Pow, Call, no_exprs, more_exprs, CondTree, Rel, Not, And, Or, ItemTree, Value, Text, Head, StmtTree, StmtTrees, Assign, If, Do, Print, Read, Stop, Comment, no_stmts, more_stmts}
use Rattle.ped_steps.specs.ped_symbolic.specs.Arithmetic.{literal}
use Rattle.ped_steps.proofs.RunLaws.DeclaredArrays.{literal_uses}
use Rattle.ped_steps.specs.ped_symbols.specs.declared.uses.Role.{Role}
use Rattle.ped_steps.specs.ped_symbols.specs.declared.uses.Role.TheVariants.{Rejected, Private, Index, Assigned, Operand}
use Rattle.ped_steps.specs.ped_symbols.specs.Declarations.{Declared, declared_in, rank_of}
use Rattle.ped_steps.specs.ped_symbols.specs.NameRefusals.{subscripts_of, differs, has_twice}
use Rattle.ped_steps.specs.ped_symbols.specs.Sites.{private_site, stmt_sites, stmts_sites}
use Rattle.ped_steps.specs.ped_symbols.specs.Uses.{used_as, expr_count, expr_uses, exprs_uses, cond_uses, target_uses, item_uses, own_uses}
use Rattle.ped_steps.specs.ped_symbols.specs.Values.{Values, within, fixed_value, is_bad_step}
use Rattle.ped_calls.specs.ped_parse.specs.ped_printed.proofs.ProgramLaws.Fits.{simple_parts, if_parts, do_parts}
use Rattle.ped_calls.specs.ped_units.specs.Forms.{Called}
use Rattle.ped_calls.specs.ped_units.specs.Units.{ProgramUnit, ProgramUnits, call_of, instead_of, with_calls, all_with_calls}
use Rattle.ped_calls.specs.ped_units.specs.Refusals.{dimensioned, plain_arguments, condition_of, using_arguments, for_names}
use Rattle.ped_calls.specs.ped_units.specs.Linking.{IsAssigned, array_bounds}
use Rattle.ped_calls.specs.ped_units.specs.Expanding.{Given, Meanings, meaning, name_or, name_meant, replaced, all_replaced, cond_replaced, item_replaced, head_replaced, called_replaced, constants_of, Expanded, expanded_or, expanded_in, all_expanded_in, call_expanded, nothing_given}
use Rattle.ped_call_runs.proofs.EachNames.{Each, each_front, each_behind, each_map}
use Rattle.ped_call_runs.proofs.ConstantValues.{HasSome, constant_kept, unreplaced, Keeps}
use Rattle.ped_call_runs.proofs.GivenMore.{GivesMore, gives_then, statement_gives, statements_give}
use Rattle.ped_call_runs.proofs.WrittenNames.{IsName, AreNames, in_private}
use Rattle.ped_call_runs.proofs.UnitNames.{IsPlain}
use Rattle.ped_call_runs.proofs.SuitedUnits.{Reads, Writes, CallSuits, OrCallSuits}
use Rattle.ped_call_runs.proofs.FairStatements.{FairHead, Fair, AllFair}
use Rattle.ped_call_runs.proofs.ProperSites.{IsProper, AreProper, proper_front, proper_behind, proper_both, AllProperAt, at_front, at_behind, at_both}
use Rattle.ped_call_runs.proofs.RightUnits.{shape}
use Rattle.ped_call_runs.proofs.NewNames.{IsVariable, differs_not, operand_proper, assigned_proper, index_proper, private_proper}
use Rattle.ped_call_runs.proofs.UnitForms.{RejectsIn, AllRejectsIn}

-- names and expressions of a statement are as they are written
pub record HeadWritten (h : Head) : Type 0 where
  pub variable : IsName h.variable
  pub first : expr_fits h.first ≡ true
  pub last : expr_fits h.last ≡ true
  pub step : expr_fits h.step ≡ true
  pub private : AreNames h.private

abbrev mutual
  pub IsWrittenStmt : StmtTree → Type 0
  IsWrittenStmt (Assign left right) = (target_fits left ≡ true) × (expr_fits right ≡ true)
  IsWrittenStmt (If condition then_part else_part) = (cond_fits condition ≡ true) × AreWrittenStmts then_part × AreWrittenStmts else_part
  IsWrittenStmt (Do h body) = HeadWritten h × AreWrittenStmts body
  IsWrittenStmt (Print items) = list_all item_fits items ≡ true
  IsWrittenStmt (Read items) = list_all target_fits items ≡ true
  IsWrittenStmt Stop = Unit {0}
  IsWrittenStmt (Comment text) = Unit {0}

  pub AreWrittenStmts : StmtTrees → Type 0
  AreWrittenStmts no_stmts = Unit {0}
  AreWrittenStmts (more_stmts s rest) = IsWrittenStmt s × AreWrittenStmts rest

mutual
  written_stmt : (p : Surroundings) (s : StmtTree) → stmt_fits p s ≡ true → IsWrittenStmt s
  written_stmt p (Assign l r) h = and_parts (target_fits l) (expr_fits r) (simple_parts p (Assign l r) refl h).own
  written_stmt p (If c a b) h =
      let f = if_parts p c a b h in
      (f.branch.own, written_stmts (in_if p 1) a f.then_part, written_stmts (in_if p (1 + statements_count a)) b f.else_part)
  written_stmt p (Do h body) k =
      let f = do_parts p h body k in
      let a = and_parts _ (expr_fits h.step) f.0.own in
      let b = and_parts _ (expr_fits h.last) a.0 in
      let c = and_parts _ (expr_fits h.first) b.0 in
      (record { variable = c.0; first = c.1; last = b.1; step = a.1; private = in_private p h f.0.private }, written_stmts (in_loop p h) body f.1)
  written_stmt p (Print items) h = (simple_parts p (Print items) refl h).own
  written_stmt p (Read items) h = (simple_parts p (Read items) refl h).own
  written_stmt p Stop h = tt
  written_stmt p (Comment text) h = tt

  pub written_stmts : (p : Surroundings) (ss : StmtTrees) → stmts_fit p ss ≡ true → AreWrittenStmts ss
  written_stmts p no_stmts h = tt
  written_stmts p (more_stmts s rest) h =
      let a = and_parts (stmt_fits p s) (stmts_fit (moved p (statement_count s)) rest) h in
      (written_stmt p s a.0, written_stmts (moved p (statement_count s)) rest a.1)

-- what the names of a unit's statements stand for, in a program of these declarations
module _ (us : ProgramUnits) (D : Declared) (V : Values) (u : ProgramUnit) (constants : Values) (k : Meanings) where
  abbrev d : Declared
  d = declared_in (for_names u).decls

  -- a named constant, or a dummy argument that isn't assigned
  abbrev pub IsFixed : List ℕ → Type 0
  IsFixed x = HasSome (value_named (constants_of u) x) ⊎ ((is_among x u.formals ≡ true) × (IsAssigned us u x → ⊥))

  pub data NameMeans (x : List ℕ) : Type 0 where
    variable : (y : List ℕ) → meaning k x ≡ Var y → value_named constants y ≡ None → IsPlain u x → rank_of d x ≡ shape u x → (IsName y → IsVariable D y (shape u x)) → NameMeans x
    itself : meaning k x ≡ Var x → (n : ℤ) → value_named (constants_of u) x ≡ Some n → value_named constants x ≡ Some n → IsProper D (used_as (Operand 0) x) → ((role : Role) → IsProper d (used_as role x) → IsProper D (used_as role x)) → NameMeans x
    valued : (n : ℤ) → meaning k x ≡ literal n → rank_of d x ≡ 0 → array_bounds u x ≡ None → IsFixed x → NameMeans x

  -- no dummy argument
  abbrev pub IsOwn : List ℕ → Type 0
  IsOwn x = is_among x u.formals ≡ false

  pub record Means (R : List (List ℕ) → Type 0) : Type 0 where
    pub means : (x : List ℕ) → Reads us u x → NameMeans x
    pub fixed : (x : List ℕ) (n : ℤ) → Reads us u x → value_named (constants_of u) x ≡ Some n → constant_value V (meaning k x) ≡ Some n
    pub apart : (xs : List (List ℕ)) → Each (Writes us u) xs → Each IsOwn xs → AreNames (map (name_meant k) xs) → has_twice xs ≡ false → has_twice (map (name_meant k) xs) ≡ false
    pub rejects : (xs : List (List ℕ)) → R xs → AreProper d (map (used_as Rejected) xs) → AreProper D (map (used_as Rejected) xs)

  counts : (es : ExprTrees) → expr_count (all_replaced k es) ≡ expr_count es
  counts no_exprs = refl
  counts (more_exprs e rest) = ap suc (counts rest)

  module _ (R : List (List ℕ) → Type 0) (context : Means R) where
    abbrev Names : List (List ℕ) → Type 0
    Names xs = Each (Reads us u) xs

    -- a name that is written isn't fixed
    unfixed : (x : List ℕ) → Writes us u x → IsFixed x → ⊥
    unfixed x w (inl has) = let z : None ≡ Some has.0 = sym w.may.plain ∙ has.1 in absurd cc
    unfixed x w (inr formal) = formal.1 (w.may.assigned formal.0)

    -- the name of an element, read or assigned
    module _ (role : ℕ → Role) (tells : (n : ℕ) → subscripts_of (role n) ≡ Some n) (proper : (y : List ℕ) (rank : ℕ) → IsVariable D y rank → (n : ℕ) → rank ≡ n → IsProper D (used_as (role n) y)) where
      element_use : (x : List ℕ) (n : ℕ) → Reads us u x → (n ≡ 0 → ⊥) → IsName (name_meant k x) → IsProper d (used_as (role n) x) → IsProper D (used_as (role n) (name_meant k x))
      element_use x n reads some is p = go (context.means x reads)
        where
          rank : rank_of d x ≡ n
          rank = differs_not (rank_of d x) n (ap (differs (rank_of d x)) (sym (tells n)) ∙ p.rank)

          go : NameMeans x → IsProper D (used_as (role n) (name_meant k x))
          go (variable y same unvalued plain ranks var) =
              let named : name_meant k x ≡ y = ap (name_or x) same in
              subst (λ (z : List ℕ). IsProper D (used_as (role n) z)) (sym named) (proper y (shape u x) (var (subst IsName named is)) n (sym ranks ∙ rank))
          go (itself same m value told read every) = subst (λ (z : List ℕ). IsProper D (used_as (role n) z)) (sym (ap (name_or x) same)) (every (role n) p)
          go (valued m same none flat fixed) = absurd (some (sym rank ∙ none))

    some_count : (es : ExprTrees) → has_expr (all_replaced k es) ≡ true → expr_count es ≡ 0 → ⊥
    some_count no_exprs h e = absurd cc
    some_count (more_exprs a rest) h e = absurd (omega (arith, e))

    operand : (x : List ℕ) → Reads us u x → IsProper d (used_as (Operand 0) x) → expr_fits (meaning k x) ≡ true → AreProper D (expr_uses (meaning k x))
    operand x reads p fit = go (context.means x reads)
      where
        rank : rank_of d x ≡ 0
        rank = differs_not (rank_of d x) 0 p.rank

        go : NameMeans x → AreProper D (expr_uses (meaning k x))
        go (variable y same unvalued plain ranks var) = subst (λ (e : ExprTree). AreProper D (expr_uses e)) (sym same) (operand_proper D y (shape u x) (var (subst (λ (e : ExprTree). expr_fits e ≡ true) same fit)) 0 (sym ranks ∙ rank), tt)
        go (itself same m value told read every) = subst (λ (e : ExprTree). AreProper D (expr_uses e)) (sym same) (every (Operand 0) p, tt)
        go (valued m same none flat fixed) = subst (λ (e : ExprTree). AreProper D (expr_uses e)) (sym same) (subst (AreProper D) (sym (literal_uses m)) tt)

    abbrev ExprProper : ExprTree → Type 0
    ExprProper e = Names (expr_names e) → AreProper d (expr_uses e) → expr_fits (replaced k e) ≡ true → AreProper D (expr_uses (replaced k e))

    both_proper : (a b : ExprTree) → ExprProper a → ExprProper b → Names (expr_names a ++ expr_names b) → AreProper d (expr_uses a ++ expr_uses b) → expr_fits (replaced k a) && expr_fits (replaced k b) ≡ true
        → AreProper D (expr_uses (replaced k a) ++ expr_uses (replaced k b))
    both_proper a b f g r h fit =
        let both = and_parts (expr_fits (replaced k a)) (expr_fits (replaced k b)) fit in
        proper_both D (expr_uses (replaced k a)) (expr_uses (replaced k b))
        (f (each_front (Reads us u) (expr_names a) (expr_names b) r) (proper_front d (expr_uses a) (expr_uses b) h) both.0)
        (g (each_behind (Reads us u) (expr_names a) (expr_names b) r) (proper_behind d (expr_uses a) (expr_uses b) h) both.1)

    mutual
      pub expr_proper : (e : ExprTree) → Names (expr_names e) → AreProper d (expr_uses e) → expr_fits (replaced k e) ≡ true → AreProper D (expr_uses (replaced k e))
      expr_proper (Int n) r h fit = tt
      expr_proper (Var x) r h fit = operand x r.0 h.0 fit
      expr_proper (Element x es) r h fit =
          let a = and_parts _ (exprs_fit (all_replaced k es)) fit in
          let b = and_parts _ (has_expr (all_replaced k es)) a.0 in
          let c = and_parts _ _ b.0 in
          let here : IsProper D (used_as (Operand (expr_count es)) (name_meant k x)) = element_use Operand (λ n. refl) (λ y rank v n e. operand_proper D y rank v n e) x (expr_count es) r.0 (some_count es b.1) c.0 h.0 in
          (subst (λ (n : ℕ). IsProper D (used_as (Operand n) (name_meant k x))) (sym (counts es)) here, exprs_proper es r.1 h.1 a.1)
      expr_proper (Neg a) r h fit = expr_proper a r h fit
      expr_proper (Add a b) r h fit = both_proper a b (expr_proper a) (expr_proper b) r h fit
      expr_proper (Sub a b) r h fit = both_proper a b (expr_proper a) (expr_proper b) r h fit
      expr_proper (Mul a b) r h fit = both_proper a b (expr_proper a) (expr_proper b) r h fit
      expr_proper (Div a b) r h fit = both_proper a b (expr_proper a) (expr_proper b) r h fit
      expr_proper (Pow a b) r h fit = both_proper a b (expr_proper a) (expr_proper b) r h fit
      expr_proper (Call f es) r h fit = exprs_proper es r h (and_parts (takes_arguments f (all_replaced k es)) (exprs_fit (all_replaced k es)) fit).1

      pub exprs_proper : (es : ExprTrees) → Names (exprs_names es) → AreProper d (exprs_uses es) → exprs_fit (all_replaced k es) ≡ true → AreProper D (exprs_uses (all_replaced k es))
      exprs_proper no_exprs r h fit = tt
      exprs_proper (more_exprs e rest) r h fit =
          let f = and_parts (expr_fits (replaced k e)) (exprs_fit (all_replaced k rest)) fit in
          proper_both D (expr_uses (replaced k e)) (exprs_uses (all_replaced k rest))
          (expr_proper e (each_front (Reads us u) (expr_names e) (exprs_names rest) r) (proper_front d (expr_uses e) (exprs_uses rest) h) f.0)
          (exprs_proper rest (each_behind (Reads us u) (expr_names e) (exprs_names rest) r) (proper_behind d (expr_uses e) (exprs_uses rest) h) f.1)

    literal_targets : (n : ℤ) → target_uses (literal n) ≡ []
    literal_targets n = go (is_negative n)
      where
        go : (b : Bool) → target_uses (if b then Neg (Int (unsigned_abs n)) else Int (unsigned_abs n)) ≡ []
        go true = refl
        go false = refl

    target_name : (x : List ℕ) → Reads us u x → IsProper d (used_as (Assigned 0) x) → target_fits (meaning k x) ≡ true → AreProper D (target_uses (meaning k x))
    target_name x reads p fit = go (context.means x reads)
      where
        rank : rank_of d x ≡ 0
        rank = differs_not (rank_of d x) 0 p.rank

        go : NameMeans x → AreProper D (target_uses (meaning k x))
        go (variable y same unvalued plain ranks var) = subst (λ (e : ExprTree). AreProper D (target_uses e)) (sym same) (assigned_proper D y (shape u x) (var (subst (λ (e : ExprTree). target_fits e ≡ true) same fit)) 0 (sym ranks ∙ rank), tt)
        go (itself same m value told read every) = subst (λ (e : ExprTree). AreProper D (target_uses e)) (sym same) (every (Assigned 0) p, tt)
        go (valued m same none flat fixed) = subst (λ (e : ExprTree). AreProper D (target_uses e)) (sym same) (subst (AreProper D) (sym (literal_targets m)) tt)

    target_proper : (e : ExprTree) → Names (expr_names e) → AreProper d (target_uses e) → target_fits (replaced k e) ≡ true → AreProper D (target_uses (replaced k e))
    target_proper (Int n) r h fit = absurd cc
    target_proper (Var x) r h fit = target_name x r.0 h.0 fit
    target_proper (Element x es) r h fit =
        let a = and_parts _ (exprs_fit (all_replaced k es)) fit in
        let b = and_parts _ (has_expr (all_replaced k es)) a.0 in
        let c = and_parts _ _ b.0 in
        let here : IsProper D (used_as (Assigned (expr_count es)) (name_meant k x)) = element_use Assigned (λ n. refl) (λ y rank v n e. assigned_proper D y rank v n e) x (expr_count es) r.0 (some_count es b.1) c.0 h.0 in
        (subst (λ (n : ℕ). IsProper D (used_as (Assigned n) (name_meant k x))) (sym (counts es)) here, exprs_proper es r.1 h.1 a.1)
    target_proper (Neg a) r h fit = absurd cc
    target_proper (Add a b) r h fit = absurd cc
    target_proper (Sub a b) r h fit = absurd cc
    target_proper (Mul a b) r h fit = absurd cc
    target_proper (Div a b) r h fit = absurd cc
    target_proper (Pow a b) r h fit = absurd cc
    target_proper (Call f es) r h fit = absurd cc

    targets_proper : (es : List ExprTree) → Names (flat_map expr_names es) → AreProper d (flat_map target_uses es) → list_all target_fits (map (replaced k) es) ≡ true → AreProper D (flat_map target_uses (map (replaced k) es))
    targets_proper [] r h fit = tt
    targets_proper (e ∷ rest) r h fit =
        let f = and_parts (target_fits (replaced k e)) (list_all target_fits (map (replaced k) rest)) fit in
        proper_both D (target_uses (replaced k e)) (flat_map target_uses (map (replaced k) rest))
        (target_proper e (each_front (Reads us u) (expr_names e) (flat_map expr_names rest) r) (proper_front d (target_uses e) (flat_map target_uses rest) h) f.0)
        (targets_proper rest (each_behind (Reads us u) (expr_names e) (flat_map expr_names rest) r) (proper_behind d (target_uses e) (flat_map target_uses rest) h) f.1)

    item_proper : (i : ItemTree) → Names (item_names i) → AreProper d (item_uses i) → item_fits (item_replaced k i) ≡ true → AreProper D (item_uses (item_replaced k i))
    item_proper (Value e) r h fit = expr_proper e r h fit
    item_proper (Text text) r h fit = tt

    items_proper : (is : List ItemTree) → Names (flat_map item_names is) → AreProper d (flat_map item_uses is) → list_all item_fits (map (item_replaced k) is) ≡ true → AreProper D (flat_map item_uses (map (item_replaced k) is))
    items_proper [] r h fit = tt
    items_proper (i ∷ rest) r h fit =
        let f = and_parts (item_fits (item_replaced k i)) (list_all item_fits (map (item_replaced k) rest)) fit in
        proper_both D (item_uses (item_replaced k i)) (flat_map item_uses (map (item_replaced k) rest))
        (item_proper i (each_front (Reads us u) (item_names i) (flat_map item_names rest) r) (proper_front d (item_uses i) (flat_map item_uses rest) h) f.0)
        (items_proper rest (each_behind (Reads us u) (item_names i) (flat_map item_names rest) r) (proper_behind d (item_uses i) (flat_map item_uses rest) h) f.1)

    abbrev CondProper : CondTree → Type 0
    CondProper c = Names (cond_names c) → AreProper d (cond_uses c) → cond_fits (cond_replaced k c) ≡ true → AreProper D (cond_uses (cond_replaced k c))

    conds_proper : (a b : CondTree) → CondProper a → CondProper b → Names (cond_names a ++ cond_names b) → AreProper d (cond_uses a ++ cond_uses b) → cond_fits (cond_replaced k a) && cond_fits (cond_replaced k b) ≡ true
        → AreProper D (cond_uses (cond_replaced k a) ++ cond_uses (cond_replaced k b))
    conds_proper a b f g r h fit =
        let both = and_parts (cond_fits (cond_replaced k a)) (cond_fits (cond_replaced k b)) fit in
        proper_both D (cond_uses (cond_replaced k a)) (cond_uses (cond_replaced k b))
        (f (each_front (Reads us u) (cond_names a) (cond_names b) r) (proper_front d (cond_uses a) (cond_uses b) h) both.0)
        (g (each_behind (Reads us u) (cond_names a) (cond_names b) r) (proper_behind d (cond_uses a) (cond_uses b) h) both.1)

    cond_proper : (c : CondTree) → CondProper c
    cond_proper (Rel o a b) r h fit = both_proper a b (expr_proper a) (expr_proper b) r h fit
    cond_proper (Not a) r h fit = cond_proper a r h fit
    cond_proper (And a b) r h fit = conds_proper a b (cond_proper a) (cond_proper b) r h fit
    cond_proper (Or a b) r h fit = conds_proper a b (cond_proper a) (cond_proper b) r h fit

    -- the variable of a loop, and a private name
    index_use : (x : List ℕ) → Writes us u x → IsName (name_meant k x) → IsProper d (used_as Index x) → IsProper D (used_as Index (name_meant k x))
    index_use x w is p = go (context.means x w.reads)
      where
        go : NameMeans x → IsProper D (used_as Index (name_meant k x))
        go (variable y same unvalued plain ranks var) =
            let named : name_meant k x ≡ y = ap (name_or x) same in
            subst (λ (z : List ℕ). IsProper D (used_as Index z)) (sym named) (index_proper D y (shape u x) (var (subst IsName named is)) (sym ranks ∙ differs_not (rank_of d x) 0 p.rank))
        go (itself same m value told read every) = subst (λ (z : List ℕ). IsProper D (used_as Index z)) (sym (ap (name_or x) same)) (every Index p)
        go (valued m same none flat fixed) = absurd (unfixed x w fixed)

    private_use : (x : List ℕ) → Writes us u x → IsName (name_meant k x) → IsProper d (used_as Private x) → IsProper D (used_as Private (name_meant k x))
    private_use x w is p = go (context.means x w.reads)
      where
        go : NameMeans x → IsProper D (used_as Private (name_meant k x))
        go (variable y same unvalued plain ranks var) =
            let named : name_meant k x ≡ y = ap (name_or x) same in
            subst (λ (z : List ℕ). IsProper D (used_as Private z)) (sym named) (private_proper D y (shape u x) (var (subst IsName named is)) (sym ranks ∙ differs_not (rank_of d x) 0 p.rank))
        go (itself same m value told read every) = subst (λ (z : List ℕ). IsProper D (used_as Private z)) (sym (ap (name_or x) same)) (every Private p)
        go (valued m same none flat fixed) = absurd (unfixed x w fixed)

    privates : (xs : List (List ℕ)) → Each (Writes us u) xs → AreNames (map (name_meant k) xs) → AreProper d (map (used_as Private) xs) → AreProper D (map (used_as Private) (map (name_meant k) xs))
    privates [] w is h = tt
    privates (x ∷ xs) w is h = (private_use x w.0 is.0 h.0, privates xs w.1 is.1 h.1)

    private_sites : (xs : List (List ℕ)) → Each (Writes us u) xs → Each IsOwn xs → AreNames (map (name_meant k) xs) → AllProperAt d (constants_of u) (private_site xs) → AllProperAt D V (private_site (map (name_meant k) xs))
    private_sites [] w own is h = tt
    private_sites (x ∷ xs) w own is h = (record { uses = privates (x ∷ xs) w is h.0.uses; once = context.apart (x ∷ xs) w own is h.0.once; fine = refl }, tt)

    step_fine : (e : ExprTree) → Names (expr_names e) → HasSome (constant_value (constants_of u) e) → is_bad_step (fixed_value (constants_of u) e) ≡ false → is_bad_step (fixed_value V (replaced k e)) ≡ false
    step_fine e r has h =
        let kept : constant_value V (replaced k e) ≡ Some has.0 =
        constant_kept (constants_of u) V [] k e (each_map (Reads us u) (λ x. Keeps (constant_value (constants_of u) (meaning [] x)) (constant_value V (meaning k x))) (expr_names e) (λ x reads n value. context.fixed x n reads value) r) has.0 (ap (constant_value (constants_of u)) (unreplaced e) ∙ has.1) in
        ap (λ (o : Option ℤ). is_bad_step (within o)) (kept ∙ sym has.1) ∙ h

    -- the head of a loop
    head_proper : (h : Head) → FairHead us u h → R h.rejected → HeadWritten (head_replaced k h) → (b c : StmtTrees) → AreProper d (own_uses (Do h b)) → AreProper D (own_uses (Do (head_replaced k h) c))
    head_proper h suits rejected written b c p =
        let bounds = expr_uses h.first ++ expr_uses h.last ++ expr_uses h.step in
        let front = proper_front d (map (used_as Rejected) h.rejected) (used_as Index h.variable ∷ bounds) p in
        let rest = proper_behind d (map (used_as Rejected) h.rejected) (used_as Index h.variable ∷ bounds) p in
        let two = proper_front d (expr_uses h.first ++ expr_uses h.last) (expr_uses h.step) rest.1 in
        proper_both D (map (used_as Rejected) h.rejected) (used_as Index (name_meant k h.variable) ∷ (expr_uses (replaced k h.first) ++ expr_uses (replaced k h.last) ++ expr_uses (replaced k h.step)))
        (context.rejects h.rejected rejected front) (
          index_use h.variable suits.variable written.variable rest.0,
          proper_both D (expr_uses (replaced k h.first) ++ expr_uses (replaced k h.last)) (expr_uses (replaced k h.step))
              (proper_both D (expr_uses (replaced k h.first)) (expr_uses (replaced k h.last))
              (expr_proper h.first suits.first (proper_front d (expr_uses h.first) (expr_uses h.last) two) written.first)
              (expr_proper h.last suits.last (proper_behind d (expr_uses h.first) (expr_uses h.last) two) written.last))
              (expr_proper h.step suits.step (proper_behind d (expr_uses h.first ++ expr_uses h.last) (expr_uses h.step) rest.1) written.step),
        )

    -- statements, by what is known of the CALLs in them
    module _ (top : Given) (depth : ℕ) where
      abbrev inner : Called → Given → Expanded Given
      inner = call_expanded depth us constants

      abbrev arrays : List (List ℕ)
      arrays = dimensioned u.tree.decls

      abbrev seen : StmtTree → StmtTree
      seen s = with_calls (using_arguments arrays) s

      abbrev all_seen : StmtTrees → StmtTrees
      all_seen ss = all_with_calls (using_arguments arrays) ss

      -- a CALL whose arguments are used properly
      abbrev pub CallProper : Type 0
      CallProper = (c : Called) → CallSuits us u c → AreProper d (cond_uses (condition_of (plain_arguments arrays (listed c.arguments)))) → (g : Given)
          → IsWrittenStmt (inner (called_replaced k c) g).statement → GivesMore (nothing_given us) g → GivesMore (inner (called_replaced k c) g).state top
          → AllProperAt D V (stmt_sites (inner (called_replaced k c) g).statement)

      module _ (call : CallProper) where
        abbrev Claim : StmtTree → Expanded Given → Given → Type 0
        Claim s e g = IsWrittenStmt e.statement → GivesMore (nothing_given us) g → GivesMore e.state top → AllProperAt D V (stmt_sites e.statement)

        in_assign : (l r : ExprTree) (o : Option Called) (g : Given) → OrCallSuits us u l r o → AllProperAt d (constants_of u) (stmt_sites (instead_of (using_arguments arrays) (Assign l r) o))
            → Claim (Assign l r) (expanded_or k inner (Assign (replaced k l) (replaced k r)) g o) g
        in_assign l r None g suits h written before later = (
          record {
            uses = proper_both D (target_uses (replaced k l)) (expr_uses (replaced k r))
                (target_proper l suits.in_left (proper_front d (target_uses l) (expr_uses r) h.0.uses) written.0)
                (expr_proper r suits.in_right (proper_behind d (target_uses l) (expr_uses r) h.0.uses) written.1);
            once = refl;
            fine = refl;
          },
          tt,
        )
        in_assign l r (Some c) g suits h written before later = call c suits h.0.uses g written before later

        mutual
          in_statement : (s : StmtTree) (g : Given) → Fair us u s → RejectsIn R s → Each IsOwn (private_names_in s) → AllProperAt d (constants_of u) (stmt_sites (seen s)) → Claim s (expanded_in k inner s g) g
          in_statement (Assign l r) g suits rejected own h written before later = in_assign l r (call_of l r) g suits h written before later
          in_statement (If c x y) g suits rejected own h written before later =
              let xs = stmts_sites (all_seen x) in
              let ys = stmts_sites (all_seen y) in
              let first = all_expanded_in k inner x g in
              let second = all_expanded_in k inner y first.state in (
                record { uses = cond_proper c suits.0 h.0.uses written.0; once = refl; fine = refl },
                at_both D V (stmts_sites first.statements) (stmts_sites second.statements)
                    (in_statements x g suits.1 rejected.0 (each_front IsOwn (all_private_names_in x) (all_private_names_in y) own) (at_front d (constants_of u) xs ys h.1) written.1 before (gives_then first.state second.state top (statements_give depth us constants k y first.state) later))
                    (in_statements y first.state suits.2 rejected.1 (each_behind IsOwn (all_private_names_in x) (all_private_names_in y) own) (at_behind d (constants_of u) xs ys h.1) written.2 (gives_then (nothing_given us) g first.state before (statements_give depth us constants k x g)) later),
              )
          in_statement (Do head body) g suits rejected own h written before later =
              let bs = all_seen body in
              let inside = all_expanded_in k inner body g in (
                record { uses = head_proper head suits.0 rejected.0 written.0 bs inside.statements h.0.uses; once = h.0.once; fine = step_fine head.step suits.0.step suits.0.value h.0.fine },
                at_both D V (private_site (map (name_meant k) head.private)) (stmts_sites inside.statements)
                    (private_sites head.private suits.0.private (each_front IsOwn head.private (all_private_names_in body) own) written.0.private (at_front d (constants_of u) (private_site head.private) (stmts_sites bs) h.1))
                    (in_statements body g suits.1 rejected.1 (each_behind IsOwn head.private (all_private_names_in body) own) (at_behind d (constants_of u) (private_site head.private) (stmts_sites bs) h.1) written.1 before later),
              )
          in_statement (Print items) g suits rejected own h written before later = (record { uses = items_proper items suits h.0.uses written; once = refl; fine = refl }, tt)
          in_statement (Read items) g suits rejected own h written before later = (record { uses = targets_proper items suits.0 h.0.uses written; once = refl; fine = refl }, tt)
          in_statement Stop g suits rejected own h written before later = (record { uses = tt; once = refl; fine = refl }, tt)
          in_statement (Comment text) g suits rejected own h written before later = tt

          pub in_statements : (ss : StmtTrees) (g : Given) → AllFair us u ss → AllRejectsIn R ss → Each IsOwn (all_private_names_in ss) → AllProperAt d (constants_of u) (stmts_sites (all_seen ss))
              → AreWrittenStmts (all_expanded_in k inner ss g).statements → GivesMore (nothing_given us) g → GivesMore (all_expanded_in k inner ss g).state top → AllProperAt D V (stmts_sites (all_expanded_in k inner ss g).statements)
          in_statements no_stmts g suits rejected own h written before later = tt
          in_statements (more_stmts s rest) g suits rejected own h written before later =
              let first = expanded_in k inner s g in
              let others = all_expanded_in k inner rest first.state in
              at_both D V (stmt_sites first.statement) (stmts_sites others.statements)
              (in_statement s g suits.0 rejected.0 (each_front IsOwn (private_names_in s) (all_private_names_in rest) own) (at_front d (constants_of u) (stmt_sites (seen s)) (stmts_sites (all_seen rest)) h) written.0 before (gives_then first.state others.state top (statements_give depth us constants k rest first.state) later))
              (in_statements rest first.state suits.1 rejected.1 (each_behind IsOwn (private_names_in s) (all_private_names_in rest) own) (at_behind d (constants_of u) (stmt_sites (seen s)) (stmts_sites (all_seen rest)) h) written.1 (gives_then (nothing_given us) g first.state before (statement_gives depth us constants k s g)) later)
