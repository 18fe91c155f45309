-- Whether a bound is plain is decided: by what is constant, what stands round it, and by the paths to the outermost DO.
use Rattle.std.proofs.Common.{◌≡◌, ◌⊎◌, ℕ, List, [], Bool, true, false, not, ◌&&◌, Option, Some, None, IsTrue, refl, inl, inr}
use Rattle.ped_base.specs.Lists.{is_among}
use Rattle.ped_tree.specs.Accesses.{constant_names}
use Rattle.ped_tree.specs.Constants.ConstantExpressions.{constant_value}
use Rattle.ped_tree.specs.Nests.{indices_of}
use Rattle.ped_tree.specs.Tree.{ExprTree, ExprTrees, Int, Var, Element, Neg, Add, Sub, Mul, Div, Pow, Call, no_exprs, more_exprs, ProgramTree}
use Rattle.ped_tree.specs.declared.expressions.Intrinsic.{Intrinsic}
use Rattle.ped_tree.specs.declared.expressions.Intrinsic.TheVariants.{Max, Min, Abs, Mod}
use Rattle.ped_affine.specs.Ranges.{interval_of}
use Rattle.ped_loop_runs.specs.ped_flow.specs.PlainBounds.{Values, nest_round, setting_round, around_with, IsConstant, IsFixed, IsExtreme, IsPlainlyBuilt, ArePlainlyBuilt, IsPlain}
use Rattle.ped_loop_runs.specs.ped_flow.specs.Questions.{IsAssignedBefore}
use Rattle.ped_loop_runs.specs.ped_flow.specs.Summaries.{summary_before_all}
use Rattle.ped_loop_runs.specs.ped_flow.proofs.Answering.{before_answer}

-- the sentence holds, or it doesn't
abbrev pub OrNot : Type 0 → Type 0
OrNot P = P ⊎ (P → ⊥)

both : {P Q : Type 0} → OrNot P → OrNot Q → OrNot (P × Q)
both (inl p) (inl q) = inl (p, q)
both (inl p) (inr n) = inr (λ x. n x.1)
both (inr n) d = inr (λ x. n x.0)

one_of : {P Q : Type 0} → OrNot P → OrNot Q → OrNot (P ⊎ Q)
one_of (inl p) d = inl (inl p)
one_of (inr n) (inl q) = inl (inr q)
one_of {P} {Q} (inr n) (inr m) = inr neither
  where
    neither : P ⊎ Q → ⊥
    neither (inl p) = n p
    neither (inr q) = m q

same_as : {P Q : Type 0} → (P → Q) → (Q → P) → OrNot P → OrNot Q
same_as to from (inl p) = inl (to p)
same_as to from (inr n) = inr (λ q. n (from q))

truth : (b : Bool) → OrNot (IsTrue b)
truth true = inl refl
truth false = inr (λ e. absurd cc)

falsehood : (b : Bool) → OrNot (b ≡ false)
falsehood true = inr (λ e. absurd cc)
falsehood false = inl refl

some_value : {X : Type 0} (o : Option X) → OrNot ((o ≡ None) → ⊥)
some_value (Some x) = inl (λ e. absurd cc)
some_value None = inr (λ n. n refl)

extreme_decided : (f : Intrinsic) → OrNot (IsExtreme f)
extreme_decided Max = inl (inl refl)
extreme_decided Min = inl (inr refl)
extreme_decided Abs = inr neither
  where
    neither : IsExtreme Abs → ⊥
    neither (inl e) = absurd cc
    neither (inr e) = absurd cc
extreme_decided Mod = inr neither
  where
    neither : IsExtreme Mod → ⊥
    neither (inl e) = absurd cc
    neither (inr e) = absurd cc

module _ (constants : Values) (t : ProgramTree) (l : ℕ) where
  constant_decided : (e : ExprTree) → OrNot (IsConstant (setting_round constants t l) e)
  constant_decided e = some_value (constant_value constants e)

  before_decided : (x : List ℕ) → OrNot (IsAssignedBefore t l x)
  before_decided x =
      let m = summary_before_all (constant_names t.decls) x l t.body 1 in
      let is = before_answer t l x m (not m.keeps && not m.loses) refl refl in
      same_as is.0 is.1 (truth (not m.keeps && not m.loses))

  fixed_decided : (x : List ℕ) → OrNot (IsFixed constants t l x)
  fixed_decided x =
      same_as (λ p. record { before = p.0; kept = p.1.0; other = p.1.1 }) (λ f. (f.before, (f.kept, f.other)))
      (both (before_decided x) (both (falsehood (is_among x (setting_round constants t l).assigned)) (falsehood (is_among x (setting_round constants t l).loop_variables))))

  mutual
    built_decided : (e : ExprTree) → OrNot (IsPlainlyBuilt constants t l e)
    built_decided (Int n) = inl tt
    built_decided (Var x) = one_of (constant_decided (Var x)) (one_of (truth (is_among x (indices_of (nest_round t l)))) (fixed_decided x))
    built_decided (Element x subscripts) = inr (λ p. p)
    built_decided (Neg a) = one_of (constant_decided (Neg a)) (built_decided a)
    built_decided (Add a b) = one_of (constant_decided (Add a b)) (both (built_decided a) (built_decided b))
    built_decided (Sub a b) = one_of (constant_decided (Sub a b)) (both (built_decided a) (built_decided b))
    built_decided (Mul a b) = one_of (constant_decided (Mul a b)) (one_of (both (constant_decided a) (built_decided b)) (both (built_decided a) (constant_decided b)))
    built_decided (Div a b) = constant_decided (Div a b)
    built_decided (Pow a b) = constant_decided (Pow a b)
    built_decided (Call f arguments) = one_of (constant_decided (Call f arguments)) (both (extreme_decided f) (are_built_decided arguments))

    are_built_decided : (es : ExprTrees) → OrNot (ArePlainlyBuilt constants t l es)
    are_built_decided no_exprs = inl tt
    are_built_decided (more_exprs e rest) = both (built_decided e) (are_built_decided rest)

  -- the bound is plain, or it isn't
  pub plain_decided : (e : ExprTree) → OrNot (IsPlain constants t l e)
  plain_decided e =
      same_as (λ p. record { built = p.0; near = p.1 }) (λ p. (p.built, p.near))
      (both (built_decided e) (some_value (interval_of (setting_round constants t l) (around_with (setting_round constants t l) [] (nest_round t l)) e)))
