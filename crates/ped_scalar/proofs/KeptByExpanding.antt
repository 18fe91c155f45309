-- Where no rule stands against `expand`, the new program keeps the meaning of a tidy old one.
use Rattle.std.proofs.Common.{◌≡◌, ℕ, ◌+◌, ℤ, List, [], ◌∷◌, Bool, true, false, Option, Some, None, if◌then◌else◌, refl, sym, ap, subst, ◌∙◌, inl, inr, arith}
use Rattle.std.specs.Prelude.{codes, IsTrue, not, ◌&&◌, ◌||◌, ◌↔◌, nat_lt, unsigned_abs}
use Rattle.std.specs.List.{list_any}
use Rattle.std.proofs.lemmas.Bool.{false≢true, not-false, or_parts}
use Rattle.std.proofs.lemmas.Bool.Decides.{nat_tests}
use Rattle.ped_base.specs.Lists.{is_same_text, is_among}
use Rattle.ped_tree.specs.Tree.{Do, more_stmts, ProgramTree}
use Rattle.ped_tree.specs.Nests.{indices_of}
use Rattle.ped_tree.specs.Accesses.{constant_names}
use Rattle.ped_tree.specs.Constants.ConstantExpressions.{constant_value}
use Rattle.ped_rules.specs.ped_symbols.specs.Kinds.{names_of, table_of}
use Rattle.ped_rules.specs.ped_symbols.specs.NameRefusals.{IsValid}
use Rattle.ped_tree.specs.NamesIn.{loop_variables}
use Rattle.ped_tree.specs.NamesIn.{all_loop_variables}
use Rattle.ped_rules.specs.ped_flow.specs.Paths.{all_paths}
use Rattle.ped_rules.specs.ped_flow.specs.PlainBounds.{nest_round}
use Rattle.ped_rules.specs.ped_flow.specs.Questions.{LoopOf, IsFirst, IsExposed, IsReadBehind, IsLiveAfter, IsAssignedThrough}
use Rattle.ped_rules.specs.ped_flow.specs.Summaries.{summary_of_all, summary_behind_all}
use Rattle.ped_rules.specs.ped_flow.proofs.Answering.{assigned_by, through_loop, read_behind}
use Rattle.ped_rules.specs.ped_flow.proofs.TreeSummaries.{all_summed, all_behind-summed}
use Rattle.ped_rules.specs.ped_laws.proofs.FlowRunLaws.Names.{sorted_among, inner_among}
use Rattle.ped_rules.specs.ped_steps.specs.Causes.{NoRule}
use Rattle.ped_rules.specs.ped_steps.specs.Tidy.{is_written_in, IsTidy}
use Rattle.ped_rules.specs.ped_steps.specs.Runs.Meaning.{Keeps}
use Rattle.ped_tree.specs.NamesIn.{private_names_in}
use Rattle.ped_scalar.proofs.ArraysForScalars as runs
use Rattle.ped_scalar.proofs.ArraysForScalars.{expanded_by, IsRound, MayExpand}
use Rattle.ped_scalar.proofs.ExpandedKeeps.{expanding_keeps}
use Rattle.ped_rules.specs.Scalars.{is_scalar, is_index_near, is_referred, IsLiveBy}
use Rattle.ped_rules.specs.Spans.{Span, has_iteration, last_value, span_by, is_far, spans_far}
use Rattle.ped_rules.specs.Fresh.{occurs, first_free, numbered_names, most_numbered}
use Rattle.ped_scalar.specs.Expanding.{kept_value, with_elements, expanded, IsExpanded, StandsAgainstExpanding}
use Rattle.ped_rules.specs.Scalars.{is_private_near, of_span}
use Rattle.ped_rules.specs.ped_loop_runs.proofs.TidyLaws.TidyPathsSums.{Summary}
use Rattle.ped_rules.proofs.RightSteps.{near_is}
use Rattle.ped_scalar.proofs.ExpandRules as rules
use Rattle.ped_rules.proofs.LeastNumbers.{least}
use Rattle.ped_scalar.proofs.WrittenThere as writing
use Rattle.ped_scalar.proofs.VariablesRound as round_it

-- a fresh name doesn't occur
free : (t : ProgramTree) (names : List (List ℕ)) (array : List ℕ) → first_free t names ≡ Some array → occurs t array ≡ false
free t [] array e = absurd cc
free t (y ∷ ys) array e = go (occurs t y) refl e (free t ys array)
  where
    go : (b : Bool) → occurs t y ≡ b → (if b then first_free t ys else Some y) ≡ Some array → (first_free t ys ≡ Some array → occurs t array ≡ false) → occurs t array ≡ false
    go true k f rest = rest f
    go false k f rest = let same : y ≡ array = cc in ap (occurs t) (sym same) ∙ k

kept_same : (live : Bool) (x array : List ℕ) (last : ℤ) → kept_value live x array last ≡ runs.kept_value live x array last
kept_same true x array last = refl
kept_same false x array last = refl

not_less : (n : ℤ) → is_far n ≡ false → nat_lt 2147483647 (unsigned_abs n) ≡ false
not_less n h = let k = near_is n h in grind (arith, nat_tests, k)

module _ (t : ProgramTree) (s : ℕ) (x : List ℕ) (l : LoopOf t s) (valid : IsValid t) (stands_none : NoRule (StandsAgainstExpanding s x t)) where
  abbrev constants : List (List ℕ)
  constants = constant_names t.decls

  pub in_order : l.head.parallel ≡ false
  in_order = rules.is_serial s x t stands_none l

  unreferred : ((not (is_scalar t x) || is_index_near t s l.head l.body x) ≡ false) × (not (is_referred t s l.body x) ≡ false)
  unreferred = or_parts (not (is_scalar t x) || is_index_near t s l.head l.body x) (not (is_referred t s l.body x)) (rules.is_fit s x t stands_none l)

  pub index : (not (is_scalar t x) ≡ false) × (is_index_near t s l.head l.body x ≡ false)
  index = or_parts (not (is_scalar t x)) (is_index_near t s l.head l.body x) unreferred.0

  pub scalar : is_scalar t x ≡ true
  scalar = not-false (is_scalar t x) index.0

  pub referred : is_referred t s l.body x ≡ true
  referred = not-false (is_referred t s l.body x) unreferred.1

  variables : (is_among x (indices_of (nest_round t s)) ≡ false) × (is_among x (loop_variables (Do l.head l.body)) ≡ false)
  variables = or_parts (is_among x (indices_of (nest_round t s))) (is_among x (loop_variables (Do l.head l.body))) index.1

  pub shared : is_private_near t s l.head l.body x ≡ false
  shared = rules.is_unshared s x t stands_none l

  privates : (is_among x (private_names_in (Do l.head l.body)) ≡ false) × (list_any (λ k. is_among x k.head.private) (nest_round t s) ≡ false)
  privates = or_parts (is_among x (private_names_in (Do l.head l.body))) (list_any (λ k. is_among x k.head.private) (nest_round t s)) shared

  pub unexposed : (n : ℕ) → IsExposed t s x n → ⊥
  unexposed = least (IsExposed t s x) (λ n first. rules.is_kept s x t stands_none n (scalar, inl first))

  -- a reference in the DO writes the scalar
  pub written_there : is_written_in t s l.body x ≡ true
  written_there = writing.written_there t valid s l x scalar variables.1 privates.0 referred unexposed

  -- so in a tidy program it is no variable of a PARALLEL DO round the DO, or of a DO in that one
  pub no_index : IsTidy t → (n : ℕ) (m : LoopOf t n) → IsRound t s n → m.head.parallel ≡ true → is_among x (loop_variables (Do m.head m.body)) ≡ false
  no_index tidy n m round parallel = round_it.no_index t s l.head l.body l.is n m round x tidy written_there parallel

  no_index_name : IsTidy t → (n : ℕ) (m : LoopOf t n) → IsRound t s n → m.head.parallel ≡ true → is_among x (m.head.variable ∷ all_loop_variables m.body) ≡ false
  no_index_name tidy n m round parallel =
      ap (λ (z : Bool). is_same_text x m.head.variable || z) (sym (sorted_among x (all_loop_variables m.body)) ∙ inner_among x m.body) ∙ no_index tidy n m round parallel

  -- the statement by which a scalar is live
  live_by : IsLiveAfter t s x → (n : ℕ) × IsLiveBy t s x n
  live_by live = by (summary_behind_all constants x s t.body 1).first (read_behind t s x (summary_behind_all constants x s t.body 1).first (all_behind-summed constants x s t.body 1).first) live
    where
      by : (o : Option ℕ) → IsFirst (IsReadBehind t s x) o → IsLiveAfter t s x → (n : ℕ) × IsLiveBy t s x n
      by (Some n) first live = (n, inl first)
      by None first (inl read) = absurd (first read.0 read.1)
      by None first (inr shown) = (s, inr (first, shown, refl))

  abbrev sum : Summary
  sum = summary_of_all constants x l.body (s + 1)

  abbrev assigned : Bool
  assigned = not sum.keeps && not sum.loses

  -- where it is live it is assigned on each path
  through : IsLiveAfter t s x → IsAssignedThrough t s x
  through live = go assigned refl
    where
      says : IsTrue assigned ↔ IsAssignedThrough t s x
      says = through_loop t s x l.head l.body assigned l.is (assigned_by (all_paths constants l.body (s + 1)).onward x sum sum assigned (all_summed constants x l.body (s + 1)).onward refl refl)

      go : (b : Bool) → assigned ≡ b → IsAssignedThrough t s x
      go true e = says.0 e
      go false e = let by = live_by live in absurd (rules.is_kept s x t stands_none by.0 (scalar, inr (unexposed, by.1, λ all. false≢true (sym e ∙ says.1 all))))

  module _ (tidy : IsTidy t) (new : ProgramTree) (e : IsExpanded t s x l.head new) where
    pub fresh : is_among e.array (names_of t) ≡ false
    fresh = (or_parts (is_among e.array (names_of t)) _ (free t (numbered_names (codes "KX") 1 most_numbered) e.array e.fresh)).0

    near : (is_far e.span.first ≡ false) × (is_far e.span.last ≡ false)
    near = or_parts (is_far e.span.first) (is_far e.span.last) (ap (of_span spans_far) (sym e.spans) ∙ rules.is_literal s x t stands_none l)

    new_valid : IsValid new
    new_valid = rules.is_valid s x t stands_none l new e

    module _ (m1 m2 m3 : ℤ) (first : constant_value (table_of t).constants l.head.first ≡ Some m1) (last : constant_value (table_of t).constants l.head.last ≡ Some m2) (step : constant_value (table_of t).constants l.head.step ≡ Some m3)
        (some : has_iteration m1 m2 m3 ≡ true) (first_is : m1 ≡ e.span.first) (last_is : last_value m1 m2 m3 ≡ e.span.last) where
      may : MayExpand t s l x e.array e.live m1 m2 m3
      may = record {
        in_order = in_order;
        scalar = scalar;
        round = variables.0;
        near = variables.1;
        shared = privates.0;
        shared_round = λ n m round. round_it.private_round t s l.head l.body l.is n m round x privates.1;
        no_index = no_index_name tidy;
        unexposed = unexposed;
        dead = λ dead live. false≢true (sym dead ∙ e.says.1 live);
        through = λ live. through (e.says.0 live);
        new = fresh;
        first = first;
        last = last;
        step = step;
        some = some;
        near_first = not_less m1 (ap is_far first_is ∙ near.0);
        near_last = not_less (last_value m1 m2 m3) (ap is_far last_is ∙ near.1);
      }

      made : new ≡ expanded_by t s (with_elements x e.array e.live (last_value m1 m2 m3)) e.array m1 m2 m3
      made = e.made ∙ λ i. expanded t s x e.live e.array (record { first = sym first_is i; last = sym last_is i })

      kept_by : Keeps t new
      kept_by =
          let by = with_elements x e.array e.live (last_value m1 m2 m3) in
          let by_is = ap (more_stmts (Do l.head (runs.body_with x e.array l.head l.body))) (kept_same e.live x e.array (last_value m1 m2 m3)) in
          subst (Keeps t) (sym made) (expanding_keeps t valid s l x e.array e.live m1 m2 m3 may by by_is (subst IsValid made new_valid))

    abbrev spanning : ℤ → ℤ → Span
    spanning m n = record { first = m; last = n }

    span_is : (v w : Span) → Some v ≡ Some w → v ≡ w
    span_is v w q = cc

    -- the program keeps its meaning
    pub expanding_keeps_it : Keeps t new
    expanding_keeps_it = by_bounds (constant_value (table_of t).constants l.head.first) (constant_value (table_of t).constants l.head.last) (constant_value (table_of t).constants l.head.step) refl refl refl e.spans
      where
        by_iteration : (m1 m2 m3 : ℤ) → constant_value (table_of t).constants l.head.first ≡ Some m1 → constant_value (table_of t).constants l.head.last ≡ Some m2 → constant_value (table_of t).constants l.head.step ≡ Some m3
            → (some : Bool) → has_iteration m1 m2 m3 ≡ some → (if some then Some (spanning m1 (last_value m1 m2 m3)) else None) ≡ Some e.span → Keeps t new
        by_iteration m1 m2 m3 first last step true some q =
            let is = span_is (spanning m1 (last_value m1 m2 m3)) e.span q in
            kept_by m1 m2 m3 first last step some (ap (λ (v : Span). v.first) is) (ap (λ (v : Span). v.last) is)
        by_iteration m1 m2 m3 first last step false some q = absurd cc

        by_bounds : (a b c : Option ℤ) → constant_value (table_of t).constants l.head.first ≡ a → constant_value (table_of t).constants l.head.last ≡ b → constant_value (table_of t).constants l.head.step ≡ c → span_by a b c ≡ Some e.span → Keeps t new
        by_bounds (Some m1) (Some m2) (Some m3) first last step q = by_iteration m1 m2 m3 first last step (has_iteration m1 m2 m3) refl q
        by_bounds (Some m1) (Some m2) None first last step q = absurd cc
        by_bounds (Some m1) None c first last step q = absurd cc
        by_bounds None b c first last step q = absurd cc
