-- A step has at most one first cause.
use Rattle.std.proofs.Common.{◌≡◌, ℕ, ◌≤◌, ◌==◌, Bool, true, false, List, [], ◌∷◌, ◌++◌, All, Option, Some, None, refl, sym, ap, ap₂, ◌∙◌, subst, arith, if◌then◌else◌}
use Rattle.std.proofs.lemmas.List.Elements.{All-head, All-tail}
use Rattle.ped_tree.specs.Tree.{ProgramTree}
use Rattle.ped_edges.specs.Edges.{Edge}
use Rattle.ped_weaves.specs.ped_graph.proofs.OnePane.{one_edges}
use Rattle.ped_steps.specs.declared.rules.Rule.{Rule}
use Rattle.ped_steps.specs.declared.rules.Rule.TheVariants.{NoLoop, NotPerfect, ParallelState, HasPrivate, IndexEscapes, BoundNotPlain, BoundsShape, StepShape, Range, NoNeighbour, OneBlock, ExposedOrLive, NotScalar, NotConstant, Limit, BadFactor, AlreadyPrivate, NothingToReject, NotSum, NoCall}
use Rattle.ped_steps.specs.RuleNames.{number_of}
use Rattle.ped_steps.specs.Causes.{Rules, IsFirstForbidding, Cause, rule, dependence, IsFirstCause}

-- a rule by its number
abbrev rule_with : ℕ → Rule
rule_with n =
    if n == 1 then NoLoop
    else if n == 2 then NotPerfect
    else if n == 3 then ParallelState
    else if n == 4 then HasPrivate
    else if n == 5 then IndexEscapes
    else if n == 6 then BoundNotPlain
    else if n == 7 then BoundsShape
    else if n == 8 then StepShape
    else if n == 9 then Range
    else if n == 10 then NoNeighbour
    else if n == 11 then OneBlock
    else if n == 12 then ExposedOrLive
    else if n == 13 then NotScalar
    else if n == 14 then NotConstant
    else if n == 15 then Limit
    else if n == 16 then BadFactor
    else if n == 17 then AlreadyPrivate
    else if n == 18 then NothingToReject
    else if n == 19 then NotSum
    else NoCall

with_number : (q : Rule) → rule_with (number_of q) ≡ q
with_number NoLoop = refl
with_number NotPerfect = refl
with_number ParallelState = refl
with_number HasPrivate = refl
with_number IndexEscapes = refl
with_number BoundNotPlain = refl
with_number BoundsShape = refl
with_number StepShape = refl
with_number Range = refl
with_number NoNeighbour = refl
with_number OneBlock = refl
with_number ExposedOrLive = refl
with_number NotScalar = refl
with_number NotConstant = refl
with_number Limit = refl
with_number BadFactor = refl
with_number AlreadyPrivate = refl
with_number NothingToReject = refl
with_number NotSum = refl
with_number NoCall = refl

-- two rules have two numbers
one_number : (q r : Rule) → number_of q ≡ number_of r → q ≡ r
one_number q r h = sym (with_number q) ∙ ap rule_with h ∙ with_number r

-- one that forbids isn't among those that don't
forbids_not : (forbids : Edge → Bool) (front behind : List Edge) (e : Edge) → forbids e ≡ true → All (λ f. forbids f ≡ false) (front ++ e ∷ behind) → ⊥
forbids_not forbids [] behind e does all = let doesnt : forbids e ≡ false = All-head (λ f. forbids f ≡ false) e behind all in absurd cc
forbids_not forbids (f ∷ front) behind e does all = forbids_not forbids front behind e does (All-tail (λ f. forbids f ≡ false) f (front ++ e ∷ behind) all)

head_is : (e f : Edge) (es fs : List Edge) → e ∷ es ≡ f ∷ fs → e ≡ f
head_is e f es fs h = cc

tail_is : (e f : Edge) (es fs : List Edge) → e ∷ es ≡ f ∷ fs → es ≡ fs
tail_is e f es fs h = cc

-- the first that forbids is one
first_is : (forbids : Edge → Bool) (front other b c : List Edge) (e f : Edge) → front ++ e ∷ b ≡ other ++ f ∷ c → forbids e ≡ true → forbids f ≡ true
    → All (λ g. forbids g ≡ false) front → All (λ g. forbids g ≡ false) other → e ≡ f
first_is forbids [] [] b c e f same p q none nothing = head_is e f b c same
first_is forbids [] (g ∷ other) b c e f same p q none nothing =
    let is = head_is e g b (other ++ f ∷ c) same in let doesnt : forbids g ≡ false = All-head (λ h. forbids h ≡ false) g other nothing in
    let does : forbids g ≡ true = sym (ap forbids is) ∙ p in absurd cc
first_is forbids (g ∷ front) [] b c e f same p q none nothing =
    let is = head_is g f (front ++ e ∷ b) c same in let doesnt : forbids g ≡ false = All-head (λ h. forbids h ≡ false) g front none in
    let does : forbids g ≡ true = ap forbids is ∙ q in absurd cc
first_is forbids (g ∷ front) (h ∷ other) b c e f same p q none nothing =
    first_is forbids front other b c e f (tail_is g h (front ++ e ∷ b) (other ++ f ∷ c) same) p q
    (All-tail (λ g. forbids g ≡ false) g front none) (All-tail (λ g. forbids g ≡ false) h other nothing)

one_forbidding : (forbids : Edge → Bool) (es fs : List Edge) (e f : Edge) → es ≡ fs → IsFirstForbidding forbids es e → IsFirstForbidding forbids fs f → e ≡ f
one_forbidding forbids es fs e f same p q = first_is forbids p.0 q.0 p.1 q.1 e f (sym p.2 ∙ same ∙ q.2) p.3 q.3 p.4 q.4

same_number : (q r : Rule) → number_of q ≤ number_of r → number_of r ≤ number_of q → number_of q ≡ number_of r
same_number q r a b = omega (arith, a, b)

module _ (t : ProgramTree) (stands : Rules) (forbids : Edge → Bool) (one : (r : Rule) (m n : ℕ) → stands r m → stands r n → m ≡ n) where
  pub one_cause : (c d : Option Cause) → IsFirstCause t stands forbids c → IsFirstCause t stands forbids d → c ≡ d
  one_cause (Some (rule r n)) (Some (rule q m)) a b =
      let is = one_number r q (same_number r q (a.1 q m b.0) (b.1 r n a.0)) in
      ap₂ (λ (p : Rule) (k : ℕ). Some (rule p k)) is (one q n m (subst (λ (p : Rule). stands p n) is a.0) b.0)
  one_cause (Some (rule r n)) (Some (dependence e)) a b = absurd (b.0 r n a.0)
  one_cause (Some (dependence e)) (Some (rule q m)) a b = absurd (a.0 q m b.0)
  one_cause (Some (dependence e)) (Some (dependence f)) a b =
      ap (λ (g : Edge). Some (dependence g)) (one_forbidding forbids a.1 b.1 e f (one_edges t a.1 b.1 a.2 b.2) a.3 b.3)
  one_cause (Some (rule r n)) None a b = absurd (b.0 r n a.0)
  one_cause None (Some (rule q m)) a b = absurd (a.0 q m b.0)
  one_cause (Some (dependence e)) None a b = absurd (forbids_not forbids a.3.0 a.3.1 e a.3.3 (subst (λ (es : List Edge). All (λ f. forbids f ≡ false) es) a.3.2 (b.1 a.1 a.2)))
  one_cause None (Some (dependence f)) a b = absurd (forbids_not forbids b.3.0 b.3.1 f b.3.3 (subst (λ (es : List Edge). All (λ g. forbids g ≡ false) es) b.3.2 (a.1 b.1 b.2)))
  one_cause None None a b = refl
