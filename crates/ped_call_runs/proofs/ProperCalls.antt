-- Expanded CALLs: nothing but a limit is refused at their blocks, since what dummy arguments and other names of a subroutine stand for may stand there.
use Rattle.std.proofs.Common.{◌≡◌, ℕ, zero, suc, ℤ, List, [], ◌∷◌, ◌++◌, map, length, not, is_some, Bool, true, false, eqb, eqb-true, arith, Option, Some, None, IfSome, refl, sym, ap, ◌∙◌, subst, append-nil, ◌⊎◌, inl, inr, if◌then◌else◌}
use Rattle.std.specs.List.{AllByRecursion}
use Rattle.std.proofs.lemmas.Bool.{both_ways}
use Rattle.std.proofs.lemmas.Map.Entries.{All-lookup}
use Rattle.ped_base.specs.Dimensions.{Dimensions}
use Rattle.ped_base.specs.Lists.{is_same_text, is_among}
use Rattle.ped_tree.specs.Accesses.{listed}
use Rattle.ped_tree.specs.Constants.ConstantExpressions.{constant_value}
use Rattle.ped_tree.specs.Constants.NamedConstants.{value_named}
use Rattle.ped_tree.specs.Grammar.Fits.{expr_fits}
use Rattle.ped_tree.specs.NamesIn.{expr_names, exprs_names, all_private_names_in}
use Rattle.ped_tree.specs.Tree.{ExprTree, ExprTrees, Int, Var, Element, Neg, Add, Sub, Mul, Div, Pow, Call, no_exprs, more_exprs, CondTree, And, StmtTrees, no_stmts}
use Rattle.ped_steps.specs.ped_symbolic.specs.Arithmetic.{literal}
use Rattle.ped_steps.proofs.RunLaws.DeclaredArrays.{literal_uses}
use Rattle.ped_calls.specs.Giving.{IsSmall}
use Rattle.ped_calls.proofs.SmallKinds.{small_constants}
use Rattle.ped_steps.specs.ped_symbols.specs.declared.symbols.Kind.{Kind}
use Rattle.ped_steps.specs.ped_symbols.specs.declared.uses.Role.TheVariants.{Rejected}
use Rattle.ped_steps.specs.ped_symbols.specs.Declarations.{Declared, declared_in, is_constant, given_rank, rank_of}
use Rattle.ped_steps.specs.ped_symbols.specs.Entries.{entry_of}
use Rattle.ped_steps.specs.ped_symbols.specs.Kinds.{kind_in}
use Rattle.ped_steps.specs.ped_symbols.specs.NameRefusals.{has_twice}
use Rattle.ped_steps.specs.ped_symbols.specs.Sites.{stmt_sites, stmts_sites}
use Rattle.ped_steps.specs.ped_symbols.specs.Uses.{used_as, expr_uses, cond_uses}
use Rattle.ped_steps.specs.ped_symbols.specs.Values.{Values, fixed_value}
use Rattle.ped_calls.specs.ped_units.specs.Forms.{Called}
use Rattle.ped_calls.specs.ped_units.specs.Units.{ProgramUnit, ProgramUnits, all_units, unit_of}
use Rattle.ped_calls.specs.ped_units.specs.Refusals.{dimensioned, is_whole_array, plain_arguments, is_zero, and_zeros, condition_of, for_names}
use Rattle.ped_calls.specs.ped_units.specs.Linking.{IsIn, Association, associations, associated, IsAssigned, bounds_by, array_bounds, argument_bounds, is_scalar_name, Arguments, Misfits, other_bounds, array_for_scalar, no_scalar, HasAllArguments, IsLinked}
use Rattle.ped_calls.specs.ped_units.specs.Expanding.{Given, free_name, with_new, declared_as, with_local, Meanings, meaning, or_itself, name_or, name_meant, replaced, all_replaced, called_replaced, is_variable_name, Bound, standing, bound_by, bound_arguments, body_names, constants_of, with_formals, with_constants, Renamed, meanings_in, behind_stmts, block_of, all_expanded_in, unit_expanded, call_expanded, nothing_given}
use Rattle.ped_call_runs.proofs.ArgumentsStand.{EachFormal, fixed_constant}
use Rattle.ped_call_runs.proofs.CalledContexts.{formals_found, meant_by, literal_no_name, valued_kind}
use Rattle.ped_call_runs.proofs.EachNames.{Each, each_front, each_behind, each_two}
use Rattle.ped_call_runs.proofs.ExpandedKinds.{small_literal}
use Rattle.ped_call_runs.proofs.GivenMore.{GivesMore, gives_then, gives_new, arguments_give, renamed_give, statements_give}
use Rattle.ped_call_runs.proofs.MeaningEntries.{constants_kept, of_constant, constants_entry, no_formal}
use Rattle.ped_call_runs.proofs.NewArrays.{IsNiceKind}
use Rattle.ped_call_runs.proofs.NewNames.{IsVariable, assigned_proper}
use Rattle.ped_call_runs.proofs.ProperSites.{AreProper, proper_front, proper_behind, AllProperAt, at_both}
use Rattle.ped_call_runs.proofs.ProperStatements.{IsWrittenStmt, AreWrittenStmts, NameMeans, variable, itself, valued, Means, expr_proper, CallProper, in_statements}
use Rattle.ped_call_runs.proofs.RenamedApart.{Apart, renamed_apart, none_twice}
use Rattle.ped_call_runs.proofs.RenamedEntries.{renamed_stays, IsRenamed, renamed_new}
use Rattle.ped_call_runs.proofs.RightUnits.{shape_by, shape}
use Rattle.ped_call_runs.proofs.SuitedUnits.{Reads, Writes, CallSuits}
use Rattle.ped_call_runs.proofs.FairStatements.{AllFair}
use Rattle.ped_call_runs.proofs.Traces.{locals_traced}
use Rattle.ped_call_runs.proofs.TraceNumbers.{none_first, one_less}
use Rattle.ped_call_runs.proofs.UnitForms.{AreNone, AllRejectsIn}
use Rattle.ped_call_runs.proofs.UnitNames.{IsPlain}
use Rattle.ped_call_runs.proofs.Walks.{unit_found}
use Rattle.ped_call_runs.proofs.WrittenNames.{IsName}

-- what is known of a unit by itself
pub record KnownUnit (us : ProgramUnits) (u : ProgramUnit) : Type 0 where
  pub suits : AllFair us u u.tree.body
  pub own : Each (λ x. is_among x u.formals ≡ false) (all_private_names_in u.tree.body)
  pub sites : AllProperAt (declared_in (for_names u).decls) (constants_of u) (stmts_sites (for_names u).body)
  pub ranks : (x : List ℕ) → Reads us u x → IsPlain u x → rank_of (declared_in (for_names u).decls) x ≡ shape u x
  pub constant : (x : List ℕ) (n : ℤ) → value_named (constants_of u) x ≡ Some n → is_constant (declared_in (for_names u).decls) x ≡ true
  pub formals : (x : List ℕ) → is_among x u.formals ≡ true → IsPlain u x

-- what is known of an expansion as a whole
pub record Whole (us : ProgramUnits) (D : Declared) (top : Given) : Type 0 where
  pub linked : IsLinked us
  pub unit : (u : ProgramUnit) → IsIn u (all_units us) → KnownUnit us u
  pub rejects : (u : ProgramUnit) → IsIn u us.others → AllRejectsIn AreNone u.tree.body
  pub many : (u v : ProgramUnit) → IsIn u (all_units us) → (c : Called) → CallSuits us u c → unit_of us c.name ≡ Some v → length (listed c.arguments) ≡ length v.formals
  pub once : (v : ProgramUnit) → IsIn v (all_units us) → has_twice v.formals ≡ false
  pub nice : (u : ProgramUnit) → IsIn u us.others → (x : List ℕ) → IsNiceKind (kind_in (for_names u) x)
  pub new : (g h : Given) → GivesMore (nothing_given us) g → GivesMore h top → (kind : Option Kind) → h.taken ≡ g.taken ++ free_name g.taken ∷ [] → h.arrays ≡ g.arrays ++ declared_as (free_name g.taken) kind → IsNiceKind kind
      → IsName (free_name g.taken) → IsVariable D (free_name g.taken) (shape_by (bounds_by kind))

-- the uses in arguments that are no names of arrays
module _ (d : Declared) (arrays : List (List ℕ)) where
  abbrev EachProper : List ExprTree → Type 0
  EachProper es = AllByRecursion (λ (a : ExprTree). AreProper d (expr_uses a)) es

  abbrev WholeOrProper : ExprTree → Type 0
  WholeOrProper a = (is_whole_array arrays a ≡ true) ⊎ AreProper d (expr_uses a)

  zeros : (c : CondTree) (es : List ExprTree) → AreProper d (cond_uses (and_zeros c es)) → AreProper d (cond_uses c) × EachProper es
  zeros c [] h = (h, tt)
  zeros c (a ∷ rest) h =
      let more = zeros (And c (is_zero a)) rest h in
      (proper_front d (cond_uses c) (cond_uses (is_zero a)) more.0, (proper_front d (expr_uses a) [] (proper_behind d (cond_uses c) (cond_uses (is_zero a)) more.0), more.1))

  conditions : (es : List ExprTree) → AreProper d (cond_uses (condition_of es)) → EachProper es
  conditions [] h = tt
  conditions (a ∷ rest) h = let more = zeros (is_zero a) rest h in (proper_front d (expr_uses a) [] more.0, more.1)

  abbrev ArgumentsProper : ExprTrees → Type 0
  ArgumentsProper es = AllByRecursion WholeOrProper (listed es)

  arguments : (es : ExprTrees) → EachProper (plain_arguments arrays (listed es)) → ArgumentsProper es
  arguments no_exprs h = tt
  arguments (more_exprs a rest) h = go (is_whole_array arrays a) refl h (arguments rest)
    where
      go : (t : Bool) → is_whole_array arrays a ≡ t → EachProper (if t then plain_arguments arrays (listed rest) else a ∷ plain_arguments arrays (listed rest)) → (EachProper (plain_arguments arrays (listed rest)) → ArgumentsProper rest) → WholeOrProper a × ArgumentsProper rest
      go true e k more = (inl e, more k)
      go false e k more = (inr k.0, more k.1)

equal : (n : ℕ) → eqb n n ≡ true
equal n = grind (arith, eqb-true)

-- the CALLs of a unit
module _ (us : ProgramUnits) (D : Declared) (V : Values) (top : Given) (whole : Whole us D top) where
  -- blocks with nothing in them
  empty_block : (c : Called) → AllProperAt D V (stmt_sites (block_of c [] no_stmts))
  empty_block c = (record { uses = tt; once = refl; fine = refl }, tt)

  -- what stands for a dummy argument
  module _ (v : ProgramUnit) where
    pub data FormalMeans (x : List ℕ) (e : ExprTree) : Type 0 where
      by_variable : (y : List ℕ) → e ≡ Var y → (IsName y → IsVariable D y (shape v x)) → FormalMeans x e
      by_literal : (n : ℤ) → e ≡ literal n → array_bounds v x ≡ None → (IsAssigned us v x → ⊥) → FormalMeans x e

  module _ (u : ProgramUnit) (is_unit : IsIn u (all_units us)) (constants : Values) (k : Meanings) (R : List (List ℕ) → Type 0) (context : Means us D V u constants k R) where
    abbrev d : Declared
    d = declared_in (for_names u).decls

    module _ (v : ProgramUnit) (c : Called) (suits : CallSuits us u c) (found : unit_of us c.name ≡ Some v) where
      abbrev Formal : List ℕ → ExprTree → ExprTree → ExprTree → Type 0
      Formal x a l r = FormalMeans v x r

      -- no argument misfits
      fits : (x : List ℕ) (a : ExprTree) → IsIn (record { formal = x; argument = a }) (associated v c) → Misfits us u v suits.place.loops (record { formal = x; argument = a }) → ⊥
      fits x a is misfits =
          whole.linked Arguments suits.place.line (inr (inr (record {
            unit = u;
            is_unit = is_unit;
            call = suits.place;
            is_call = suits.is_call;
            stands = (
              v,
              ap (λ (e : Called). unit_of us e.name) suits.is ∙ found,
              inr (subst (λ (e : Called). HasAllArguments v e) (sym suits.is) (whole.many u v is_unit c suits found), record { formal = x; argument = a }, subst (λ (e : Called). IsIn (record { formal = x; argument = a }) (associated v e)) (sym suits.is) is, misfits),
            );
            there = refl;
          })))

      abbrev Fits : List ℕ → ExprTree → Type 0
      Fits x a = IsIn (record { formal = x; argument = a }) (associated v c)

      none_some : (a : Dimensions) → None ≡ Some a → ⊥
      none_some a e = absurd cc

      -- a dummy argument has as many dimensions as its argument
      same_shape : (x : List ℕ) (a : ExprTree) → Fits x a → shape_by (array_bounds v x) ≡ shape_by (argument_bounds u a)
      same_shape x a is = go (array_bounds v x) (argument_bounds u a) refl refl
        where
          lengths : (b w : Dimensions) → array_bounds v x ≡ Some b → argument_bounds u a ≡ Some w → (t : Bool) → eqb (length w.lower) (length b.lower) ≡ t → length b.lower ≡ length w.lower
          lengths b w e f true h = sym (eqb-true (length w.lower) (length b.lower) h)
          lengths b w e f false h =
              absurd (fits x a is (other_bounds b e (λ l.
              let same : length w.lower ≡ length b.lower = ap shape_by (sym f ∙ l) in
              both_ways (eqb (length w.lower) (length b.lower)) h (ap (λ (n : ℕ). eqb n (length b.lower)) same ∙ equal (length b.lower)))))

          go : (o p : Option Dimensions) → array_bounds v x ≡ o → argument_bounds u a ≡ p → shape_by o ≡ shape_by p
          go None None e f = refl
          go None (Some w) e f = absurd (fits x a is (array_for_scalar w e f))
          go (Some b) None e f = absurd (fits x a is (other_bounds b e (λ l. none_some b (sym f ∙ l))))
          go (Some b) (Some w) e f = lengths b w e f (eqb (length w.lower) (length b.lower)) refl

      -- one whose argument is no array is none
      no_array : (x : List ℕ) (a : ExprTree) → Fits x a → argument_bounds u a ≡ None → array_bounds v x ≡ None
      no_array x a is none = go (array_bounds v x) refl
        where
          go : (o : Option Dimensions) → array_bounds v x ≡ o → o ≡ None
          go None e = refl
          go (Some b) e = absurd (fits x a is (other_bounds b e (λ l. none_some b (sym none ∙ l))))

      -- what is known of an argument that is no variable's name
      record Unnamed (x : List ℕ) (a : ExprTree) : Type 0 where
        bounds : argument_bounds u a ≡ None
        free : IsAssigned us v x → ⊥

      unnamed_if : (x : List ℕ) (a : ExprTree) → Fits x a → argument_bounds u a ≡ None → is_scalar_name u a ≡ false → Unnamed x a
      unnamed_if x a is bounds scalar = record { bounds = bounds; free = λ assigned. fits x a is (no_scalar (no_array x a is bounds) assigned scalar) }

      unvariable : (o : Option ℤ) → not (is_some o) ≡ false → o ≡ None → ⊥
      unvariable None h e = absurd cc
      unvariable (Some n) h e = absurd cc

      -- its name, where it is one, stands for a value
      passed : (x z : List ℕ) → Fits x (Var z) → is_among z u.formals ≡ true → IsAssigned us v x → IsAssigned us u z
      passed x z is formal assigned = (
        record { unit = v; formal = x } ∷ assigned.0,
        (
          record {
            is_formal = formal;
            calls = record { call = suits.place; is_call = suits.is_call; is_unit = ap (λ (e : Called). unit_of us e.name) suits.is ∙ found };
            association = record { formal = x; argument = Var z };
            associates = subst (λ (e : Called). IsIn (record { formal = x; argument = Var z }) (associated v e)) (sym suits.is) is;
            passes = refl;
            stands_for = refl;
          },
          assigned.1,
        ),
      )

      unnamed_var : (x z : List ℕ) → Fits x (Var z) → is_variable_name constants (meaning k z) ≡ false → NameMeans us D V u constants k z → Unnamed x (Var z)
      unnamed_var x z is h (variable y same unvalued plain ranks var) = absurd (unvariable (value_named constants y) (ap (is_variable_name constants) (sym same) ∙ h) unvalued)
      unnamed_var x z is h (itself same n value told read every) = let kind = valued_kind (for_names u) z n value in unnamed_if x (Var z) is kind.0 kind.1
      unnamed_var x z is h (valued n same none flat (inl value)) = let kind = valued_kind (for_names u) z value.0 value.1 in unnamed_if x (Var z) is kind.0 kind.1
      unnamed_var x z is h (valued n same none flat (inr formal)) = record { bounds = flat; free = λ assigned. formal.1 (passed x z is formal.0 assigned) }

      unnamed : (x : List ℕ) (a : ExprTree) → Each (Reads us u) (expr_names a) → Fits x a → is_variable_name constants (replaced k a) ≡ false → Unnamed x a
      unnamed x (Int n) r is h = unnamed_if x (Int n) is refl refl
      unnamed x (Var z) r is h = unnamed_var x z is h (context.means z r.0)
      unnamed x (Element z es) r is h = unnamed_if x (Element z es) is refl refl
      unnamed x (Neg a) r is h = unnamed_if x (Neg a) is refl refl
      unnamed x (Add a b) r is h = unnamed_if x (Add a b) is refl refl
      unnamed x (Sub a b) r is h = unnamed_if x (Sub a b) is refl refl
      unnamed x (Mul a b) r is h = unnamed_if x (Mul a b) is refl refl
      unnamed x (Div a b) r is h = unnamed_if x (Div a b) is refl refl
      unnamed x (Pow a b) r is h = unnamed_if x (Pow a b) is refl refl
      unnamed x (Call f es) r is h = unnamed_if x (Call f es) is refl refl

      abbrev arrays : List (List ℕ)
      arrays = dimensioned u.tree.decls

      -- the uses in such an argument are proper
      var_proper : (z : List ℕ) → is_variable_name constants (meaning k z) ≡ false → NameMeans us D V u constants k z → AreProper D (expr_uses (meaning k z))
      var_proper z h (variable y same unvalued plain ranks var) = absurd (unvariable (value_named constants y) (ap (is_variable_name constants) (sym same) ∙ h) unvalued)
      var_proper z h (itself same n value told read every) = subst (λ (e : ExprTree). AreProper D (expr_uses e)) (sym same) (read, tt)
      var_proper z h (valued n same none flat fixed) = subst (λ (e : ExprTree). AreProper D (expr_uses e)) (sym same) (subst (AreProper D) (sym (literal_uses n)) tt)

      whole_proper : (a : ExprTree) → Each (Reads us u) (expr_names a) → is_whole_array arrays a ≡ true → is_variable_name constants (replaced k a) ≡ false → AreProper D (expr_uses (replaced k a))
      whole_proper (Int n) r w h = absurd cc
      whole_proper (Var z) r w h = var_proper z h (context.means z r.0)
      whole_proper (Element z es) r w h = absurd cc
      whole_proper (Neg a) r w h = absurd cc
      whole_proper (Add a b) r w h = absurd cc
      whole_proper (Sub a b) r w h = absurd cc
      whole_proper (Mul a b) r w h = absurd cc
      whole_proper (Div a b) r w h = absurd cc
      whole_proper (Pow a b) r w h = absurd cc
      whole_proper (Call f es) r w h = absurd cc

      argument_proper : (a : ExprTree) → Each (Reads us u) (expr_names a) → WholeOrProper d arrays a → is_variable_name constants (replaced k a) ≡ false → expr_fits (replaced k a) ≡ true → AreProper D (expr_uses (replaced k a))
      argument_proper a r (inl w) h fit = whole_proper a r w h
      argument_proper a r (inr p) h fit = expr_proper us D V u constants k R context a r p fit

      -- a variable's name stands for a dummy argument
      stands_var : (x z : List ℕ) → Fits x (Var z) → is_variable_name constants (meaning k z) ≡ true → NameMeans us D V u constants k z → FormalMeans v x (meaning k z)
      stands_var x z is h (variable y same unvalued plain ranks var) = by_variable y same (λ name. subst (IsVariable D y) (sym (same_shape x (Var z) is)) (var name))
      stands_var x z is h (itself same n value told read every) =
          absurd (both_ways (is_variable_name constants (meaning k z)) (ap (is_variable_name constants) same ∙ ap (λ (o : Option ℤ). not (is_some o)) told) h)
      stands_var x z is h (valued n same none flat fixed) = absurd (both_ways (is_variable_name constants (meaning k z)) (ap (is_variable_name constants) same ∙ literal_no_name constants n) h)

      stands : (x : List ℕ) (a : ExprTree) → Each (Reads us u) (expr_names a) → Fits x a → is_variable_name constants (replaced k a) ≡ true → FormalMeans v x (replaced k a)
      stands x (Int n) r is h = absurd cc
      stands x (Var z) r is h = stands_var x z is h (context.means z r.0)
      stands x (Element z es) r is h = absurd cc
      stands x (Neg a) r is h = absurd cc
      stands x (Add a b) r is h = absurd cc
      stands x (Sub a b) r is h = absurd cc
      stands x (Mul a b) r is h = absurd cc
      stands x (Div a b) r is h = absurd cc
      stands x (Pow a b) r is h = absurd cc
      stands x (Call f es) r is h = absurd cc

      -- arguments, and the assignments before the statements of the block
      module _ (body : StmtTrees) where
        abbrev bounds : ExprTrees → Given → Bound
        bounds es g = bound_arguments constants (listed (all_replaced k es)) g

        pub record AreBound (xs : List (List ℕ)) (b : Bound) : Type 0 where
          pub formals : EachFormal Formal xs b.meant b.meant b.meant
          pub rest : AreWrittenStmts body
          pub all : AllProperAt D V (stmts_sites body) → AllProperAt D V (stmts_sites (behind_stmts b.assignments body))

        abbrev Claim : List (List ℕ) → Bound → Given → Type 0
        Claim xs b g = AreWrittenStmts (behind_stmts b.assignments body) → GivesMore (nothing_given us) g → GivesMore b.given top → AreBound xs b

        module _ (x : List ℕ) (xs : List (List ℕ)) (a : ExprTree) (rest : ExprTrees) (reads : Each (Reads us u) (expr_names a)) (is : Fits x a) (proper : WholeOrProper d arrays a) (more : (g : Given) → Claim xs (bounds rest g) g) where
          abbrev e : ExprTree
          e = replaced k a

          standing_bound : (f : ExprTree) (g : Given) → FormalMeans v x f → Claim (x ∷ xs) (standing f (bounds rest g)) g
          standing_bound f g means written before later =
              let r = more g written before later in
              record { formals = (means, r.formals); rest = r.rest; all = r.all }

          assigned_bound : (g : Given) → is_variable_name constants e ≡ false → Claim (x ∷ xs) (bound_by None e g (bounds rest)) g
          assigned_bound g h written before later =
              let y = free_name g.taken in
              let g2 = with_new g in
              let r = more g2 written.1 (gives_then (nothing_given us) g g2 before (gives_new g)) later in
              let to_come : GivesMore g2 top = gives_then g2 (bounds rest g2).given top (arguments_give constants (listed (all_replaced k rest)) g2) later in
              let none = no_array x a is (unnamed x a reads is h).bounds in
              let new : IsVariable D y 0 = whole.new g g2 before to_come None refl (sym (append-nil g.arrays)) tt written.0.0 in
              record {
                formals = (by_variable y refl (λ name. subst (IsVariable D y) (sym (ap shape_by none)) new), r.formals);
                rest = r.rest;
                all = λ inside. (
                  record { uses = (assigned_proper D y 0 new 0 refl, argument_proper a reads proper h written.0.1); once = refl; fine = refl },
                  r.all inside,
                );
              }

          one_bound : (g : Given) (t : Bool) (o : Option ℤ) → is_variable_name constants e ≡ t → Claim (x ∷ xs) (if t then standing e (bounds rest g) else bound_by o e g (bounds rest)) g
          one_bound g true o h = standing_bound e g (stands x a reads is h)
          one_bound g false (Some n) h =
              let known = unnamed x a reads is h in
              standing_bound (literal n) g (by_literal n refl (no_array x a is known.bounds) known.free)
          one_bound g false None h = assigned_bound g h

        pub arguments_bound : (xs : List (List ℕ)) (es : ExprTrees) → length (listed es) ≡ length xs → Each (Reads us u) (exprs_names es) → ArgumentsProper d arrays es → ((a : Association) → IsIn a (associations xs (listed es)) → IsIn a (associated v c)) → (g : Given) → Claim xs (bounds es g) g
        arguments_bound [] no_exprs same reads proper associates g written before later = record { formals = tt; rest = written; all = λ inside. inside }
        arguments_bound [] (more_exprs a rest) same reads proper associates g written before later = absurd (none_first (length (listed rest)) same)
        arguments_bound (x ∷ xs) no_exprs same reads proper associates g written before later = absurd (none_first (length xs) (sym same))
        arguments_bound (x ∷ xs) (more_exprs a rest) same reads proper associates g written before later =
            one_bound x xs a rest (each_front (Reads us u) (expr_names a) (exprs_names rest) reads) (associates (record { formal = x; argument = a }) (inl refl)) proper.0
            (arguments_bound xs rest (one_less (length (listed rest)) (length xs) same) (each_behind (Reads us u) (expr_names a) (exprs_names rest) reads) proper.1 (λ z l. associates z (inr l)))
            g (is_variable_name constants (replaced k a)) (fixed_value constants (replaced k a)) refl written before later

  -- the names of a subroutine whose arguments are bound
  module _ (v : ProgramUnit) (is_in : IsIn v us.others) (b : Bound) (formals : EachFormal (λ x a l r. FormalMeans v x r) v.formals b.meant b.meant b.meant)
      (before : GivesMore (nothing_given us) b.given) (later : GivesMore (meanings_in v b).given top) where
    abbrev dv : Declared
    dv = declared_in (for_names v).decls

    abbrev start : Renamed
    start = record { meanings = with_constants (with_formals [] v.formals b.meant) (constants_of v); given = b.given }

    abbrev meant : Meanings
    meant = (meanings_in v b).meanings

    of : KnownUnit us v
    of = whole.unit v (inr is_in)

    constant_rank : (x : List ℕ) (n : ℤ) → value_named (constants_of v) x ≡ Some n → rank_of dv x ≡ 0
    constant_rank x n e = ap (λ (t : Bool). if t then 0 else given_rank dv.uses x) (of.constant x n e)

    absent : (x : List ℕ) → is_among x v.formals ≡ false → (o : Option ℤ) → value_named (constants_of v) x ≡ o → entry_of start.meanings x ≡ of_constant o
    absent x outside o e = constants_entry (constants_of v) (with_formals [] v.formals b.meant) x (no_formal v.formals b.meant [] x outside refl) ∙ ap of_constant e

    -- a name that stands for no argument and is no constant
    renamed_name : (x : List ℕ) → Reads us v x → is_among x v.formals ≡ false → value_named (constants_of v) x ≡ None → IsRenamed 0 v b.given x (locals_traced 0 v (body_names v) start) (meanings_in v b)
    renamed_name x reads outside e = renamed_new 0 v (body_names v) start x (absent x outside None e) reads

    constant_means : (x : List ℕ) (n : ℤ) → is_among x v.formals ≡ false → value_named (constants_of v) x ≡ Some n → meaning meant x ≡ literal n
    constant_means x n outside e = meant_by meant x (literal n) (renamed_stays v (body_names v) start x (literal n) (absent x outside (Some n) e))

    name_means : (x : List ℕ) → Reads us v x → NameMeans us D V v [] meant x
    name_means x reads = go (is_among x v.formals) refl
      where
        of_formal : is_among x v.formals ≡ true → (r : ExprTree) → meaning meant x ≡ r → FormalMeans v x r → NameMeans us D V v [] meant x
        of_formal formal r same (by_variable y e var) = variable y (same ∙ e) refl (of.formals x formal) (of.ranks x reads (of.formals x formal)) var
        of_formal formal r same (by_literal n e none free) = valued n (same ∙ e) (of.ranks x reads (of.formals x formal) ∙ ap shape_by none) none (inr (formal, free))

        of_other : is_among x v.formals ≡ false → (o : Option ℤ) → value_named (constants_of v) x ≡ o → NameMeans us D V v [] meant x
        of_other outside (Some n) e = valued n (constant_means x n outside e) (constant_rank x n e) (valued_kind (for_names v) x n e).0 (inl (n, e))
        of_other outside None e =
            let new = renamed_name x reads outside e in
            let so_far = gives_then (nothing_given us) b.given new.at before new.before in
            let to_come = gives_then (with_local new.at (kind_in (for_names v) x)) (meanings_in v b).given top new.later later in
            variable (free_name new.at.taken) (meant_by meant x (Var (free_name new.at.taken)) new.stands) refl e (of.ranks x reads e)
            (λ name. whole.new new.at (with_local new.at (kind_in (for_names v) x)) so_far to_come (kind_in (for_names v) x) refl refl (whole.nice v is_in x) name)

        go : (t : Bool) → is_among x v.formals ≡ t → NameMeans us D V v [] meant x
        go true e =
            let found = formals_found (λ x a l r. FormalMeans v x r) v.formals b.meant b.meant b.meant formals (whole.once v (inr is_in)) [] [] (λ z m. refl) (λ z m. refl) x e in
            of_formal e found.right (meant_by meant x found.right (renamed_stays v (body_names v) start x found.right (constants_kept (constants_of v) (with_formals [] v.formals b.meant) x found.right found.in_right))) found.holds
        go false e = of_other e (value_named (constants_of v) x) refl

    -- constants have their values
    fixed_there : (x : List ℕ) (n : ℤ) → Reads us v x → value_named (constants_of v) x ≡ Some n → constant_value V (meaning meant x) ≡ Some n
    fixed_there x n reads e = go (is_among x v.formals) refl
      where
        small : IsSmall n
        small = subst (λ (o : Option ℤ). IfSome o IsSmall) e (All-lookup IsSmall (is_same_text x) (constants_of v) (small_constants (for_names v)))

        go : (t : Bool) → is_among x v.formals ≡ t → constant_value V (meaning meant x) ≡ Some n
        go true f = let z : None ≡ Some n = sym (of.formals x f) ∙ e in absurd cc
        go false f = ap (constant_value V) (constant_means x n f e) ∙ fixed_constant V (literal n) n (small_literal V n small)

    -- different variables have different names
    abbrev OfItself : List ℕ → Type 0
    OfItself x = Writes us v x × (is_among x v.formals ≡ false)

    apart : Apart (λ x. is_among x v.formals ≡ false) (meanings_in v b)
    apart = renamed_apart (λ x. is_among x v.formals ≡ false) v (body_names v) start (record { taken = λ x y p e. absurd (no_var x y p e); once = λ x z y p q is e f. absurd (no_var x y p e) })
      where
        no_var : (x y : List ℕ) → is_among x v.formals ≡ false → entry_of start.meanings x ≡ Some (Var y) → ⊥
        no_var x y outside e = by (value_named (constants_of v) x) refl
          where
            by : (o : Option ℤ) → value_named (constants_of v) x ≡ o → ⊥
            by (Some n) k =
                let same : literal n ≡ Var y = ap (or_itself x) (sym (absent x outside (Some n) k) ∙ e) in
                both_ways (is_variable_name [] (literal n)) (literal_no_name [] n) (ap (is_variable_name []) same)
            by None k = let z : None ≡ Some (Var y) = sym (absent x outside None k) ∙ e in absurd cc

    once_meant : (x z : List ℕ) → OfItself x → OfItself z → IsName (name_meant meant x) → name_meant meant x ≡ name_meant meant z → x ≡ z
    once_meant x z p q is e =
        let first = renamed_name x p.0.reads p.1 p.0.may.plain in
        let second = renamed_name z q.0.reads q.1 q.0.may.plain in
        let left : name_meant meant x ≡ free_name first.at.taken = ap (name_or x) (meant_by meant x (Var (free_name first.at.taken)) first.stands) in
        let right : name_meant meant z ≡ free_name second.at.taken = ap (name_or z) (meant_by meant z (Var (free_name second.at.taken)) second.stands) in
        apart.once x z (free_name first.at.taken) p.1 q.1 (subst IsName left is) first.stands (second.stands ∙ ap (λ (y : List ℕ). Some (Var y)) (sym right ∙ sym e ∙ left))

    pub means_there : Means us D V v [] meant AreNone
    means_there = record {
      means = name_means;
      fixed = fixed_there;
      apart = λ xs writes own names h. none_twice OfItself (name_meant meant) once_meant xs (each_two (Writes us v) (λ x. is_among x v.formals ≡ false) OfItself xs (λ x w o. (w, o)) writes own) names h;
      rejects = λ xs none h. subst (λ (ys : List (List ℕ)). AreProper D (map (used_as Rejected) ys)) (sym none) tt;
    }

  -- CALLs of any depth
  pub calls_proper : (depth : ℕ) (u : ProgramUnit) (is_unit : IsIn u (all_units us)) (constants : Values) (k : Meanings) (R : List (List ℕ) → Type 0) (context : Means us D V u constants k R) → CallProper us D V u constants k R context top depth
  calls_proper zero u is_unit constants k R context c suits proper g written before later = empty_block (called_replaced k c)
  calls_proper (suc depth) u is_unit constants k R context c suits proper g written before later = go (unit_of us c.name) refl (λ v is b h. calls_proper depth v is [] b AreNone h) written before later
    where
      go : (o : Option ProgramUnit) → unit_of us c.name ≡ o → ((v : ProgramUnit) (is : IsIn v (all_units us)) (m : Meanings) (h : Means us D V v [] m AreNone) → CallProper us D V v [] m AreNone h top depth)
          → IsWrittenStmt (unit_expanded (call_expanded depth us []) constants (called_replaced k c) g o).statement → GivesMore (nothing_given us) g → GivesMore (unit_expanded (call_expanded depth us []) constants (called_replaced k c) g o).state top
          → AllProperAt D V (stmt_sites (unit_expanded (call_expanded depth us []) constants (called_replaced k c) g o).statement)
      go None found inner written before later = empty_block (called_replaced k c)
      go (Some v) found inner written before later =
          let b = bound_arguments constants (listed (all_replaced k c.arguments)) g in
          let r = meanings_in v b in
          let body = all_expanded_in r.meanings (call_expanded depth us []) v.tree.body r.given in
          let is_in : IsIn v us.others = unit_found us.others c.name v found in
          let of = whole.unit v (inr is_in) in
          let so_far : GivesMore (nothing_given us) b.given = gives_then (nothing_given us) g b.given before (arguments_give constants (listed (all_replaced k c.arguments)) g) in
          let names : GivesMore b.given r.given = renamed_give v (body_names v) (record { meanings = with_constants (with_formals [] v.formals b.meant) (constants_of v); given = b.given }) in
          let to_come : GivesMore r.given top = gives_then r.given body.state top (statements_give depth us [] r.meanings v.tree.body r.given) later in
          let bound = arguments_bound u is_unit constants k R context v c suits found body.statements v.formals c.arguments (whole.many u v is_unit c suits found) suits.arguments
          (arguments (declared_in (for_names u).decls) (dimensioned u.tree.decls) c.arguments (conditions (declared_in (for_names u).decls) (dimensioned u.tree.decls) (plain_arguments (dimensioned u.tree.decls) (listed c.arguments)) proper))
          (λ a is. is) g written.1.1 before (gives_then b.given r.given top names to_come) in
          let context_there = means_there v is_in b bound.formals so_far to_come in
          let inside = in_statements us D V v [] r.meanings AreNone context_there top depth (inner v (inr is_in) r.meanings context_there) v.tree.body r.given of.suits (whole.rejects v is_in) of.own of.sites bound.rest (gives_then (nothing_given us) b.given r.given so_far names) later in
          (record { uses = tt; once = refl; fine = refl }, at_both D V (stmts_sites (behind_stmts b.assignments body.statements)) [] (bound.all inside) tt)
