-- Values of the unknowns of a system, and what is true of them at two accesses to one cell (this project).
use Rattle.std.specs.Prelude.{◌≡◌, ℕ, ◌+◌, ◌<◌, ℤ, pos, ◌+ℤ◌, ◌-ℤ◌, ◌*ℤ◌, ◌≤ℤ◌, List, [], ◌∷◌, ◌++◌, length, get_or, take, drop, true, false, IsTrue, Some}
use Rattle.std.specs.List.{AllByRecursion}
use Rattle.ped_base.specs.Lists.{is_among}
use Rattle.ped_views.specs.declared.directions.Direction.{Direction}
use Rattle.ped_views.specs.Whole.{Divides}
use Rattle.ped_views.specs.Intervals.{Lies}
use Rattle.ped_views.specs.Excluded.{StandsByValue, by_value, InRange}
use Rattle.ped_certificates.specs.Rows.{dot}
use Rattle.ped_tree.specs.Tree.{ExprTree}
use Rattle.ped_tree.specs.Nests.{Loop}
use Rattle.ped_affine.specs.Ranges.{Setting, any_value}
use Rattle.ped_affine.specs.AffineForms.{AffineForm}
use Rattle.ped_evidence.specs.Levels.{Level, lower_bounds, upper_bounds}
use Rattle.ped_evidence.specs.Layouts.{Columns, Layout, form_at, has_own, has_shared}
use Rattle.ped_evidence.specs.Systems.{counted}

-- values of the unknowns: of the loops' variables at the source and at the sink, of the quotients, and of the symbols
pub record Values : Type 0 where
  pub source : List ℤ
  pub sink : List ℤ
  pub quotients : List ℤ
  pub symbols : List ℤ

-- the values in the order of the unknowns
abbrev pub in_order : Values → List ℤ
in_order w = w.source ++ (w.sink ++ (w.quotients ++ w.symbols))

-- there is a value for each unknown
pub record AreFor (c : Columns) (w : Values) : Type 0 where
  pub source : length w.source ≡ c.source
  pub sink : length w.sink ≡ c.sink
  pub quotients : length w.quotients ≡ c.quotients
  pub symbols : length w.symbols ≡ c.symbols

-- the value of a form in the variables of loops and in symbols, where these have these values (Allen and Kennedy, section 3.1)
abbrev pub value_by : List ℤ → List ℤ → AffineForm → ℤ
value_by loops symbols f = dot (take (length loops) f.coefficients) loops +ℤ dot (drop (length loops) f.coefficients) symbols +ℤ f.constant

-- a form has a coefficient for each of these loops and symbols
abbrev pub IsComplete : List ℤ → List ℤ → AffineForm → Type 0
IsComplete loops symbols f = length f.coefficients ≡ length loops + length symbols

-- each form of these expressions is complete, and its value is so (plain words)
abbrev pub FormsAre : Setting → List (List ℕ) → List Loop → List ℤ → List ℤ → (ℤ → Type 0) → List ExprTree → Type 0
FormsAre s names around loops symbols P es =
    AllByRecursion (λ e. (f : AffineForm) → form_at s names around e ≡ Some f → IsComplete loops symbols f × P (value_by loops symbols f)) es

-- the value of a loop's variable in an iteration that a run has come to, where the loops round it have these values, and symbols of these names these: it lies in the range, is at least each lower bound and at most each upper bound, and is a whole number of steps from the initial value (ANSI X3.9-1978, sections 11.10.3, 11.10.7)
pub record IsReached (s : Setting) (names : List (List ℕ)) (symbols loops : List ℤ) (v : Level) (x : ℤ) : Type 0 where
  pub as_many : length v.around ≡ length loops
  pub in_range : InRange v.range x
  pub lower : FormsAre s names v.around loops symbols (λ n. n ≤ℤ x) (lower_bounds v)
  pub upper : FormsAre s names v.around loops symbols (λ n. x ≤ℤ n) (upper_bounds v)
  pub own : (f : AffineForm) → form_at s names v.around v.head.first ≡ Some f → IsComplete loops symbols f × ((q : ℤ) × (x ≡ value_by loops symbols f +ℤ v.range.step *ℤ q))

-- the same of loops, one inside the other, where those round the first have these values
abbrev pub AreReached : Setting → List (List ℕ) → List ℤ → List ℤ → List Level → List ℤ → Type 0
AreReached s names symbols loops (v ∷ vs) (x ∷ xs) = IsReached s names symbols loops v x × AreReached s names symbols (loops ++ x ∷ []) vs xs
AreReached s names symbols loops [] [] = Unit {0}
AreReached s names symbols loops [] (x ∷ xs) = ⊥
AreReached s names symbols loops (v ∷ vs) [] = ⊥

-- the value of a loop's variable among those of the loops of its side
abbrev pub value_at : List ℤ → Level → ℤ
value_at values v = get_or values (length v.around) (pos 0)

-- the values of a common loop's variable, among these of the source and these of the sink, are in the direction, and where all its entries begin at one value, a whole number of steps apart (Allen and Kennedy, sections 2.2.4, 3.3.2)
pub record IsCommon (from to : List ℤ) (v : Level) (d : Direction) : Type 0 where
  pub at_source : length v.around < length from
  pub at_sink : length v.around < length to
  pub stands : StandsByValue (by_value v.range.step d) (value_at from v) (value_at to v)
  pub in_step : IsTrue v.range.steady → Divides v.range.step (value_at to v -ℤ value_at from v)

-- the same of each common loop
abbrev pub AreCommon : List ℤ → List ℤ → List Level → List Direction → Type 0
AreCommon from to (v ∷ vs) (d ∷ ds) = IsCommon from to v d × AreCommon from to vs ds
AreCommon from to [] [] = Unit {0}
AreCommon from to [] (d ∷ ds) = ⊥
AreCommon from to (v ∷ vs) [] = ⊥

-- a quotient with this number has this value
pub record IsQuotient (c : Columns) (w : Values) (q : ℕ) (n : ℤ) : Type 0 where
  pub within : q < c.quotients
  pub is : get_or w.quotients q (pos 0) ≡ n

-- quotients that count from this number are those of loops by themselves: how many steps each is from its initial value
abbrev pub OwnCount : Layout → Values → List ℤ → ℕ → List Level → List ℤ → Type 0
OwnCount y w loops q (v ∷ vs) (x ∷ xs) =
    (has_own y.setting y.symbols v ≡ true → (f : AffineForm) → form_at y.setting y.symbols v.around v.head.first ≡ Some f
    → (n : ℤ) × IsQuotient y.columns w q n × (x ≡ value_by loops w.symbols f +ℤ v.range.step *ℤ n))
    × OwnCount y w (loops ++ x ∷ []) (counted (has_own y.setting y.symbols v) q) vs xs
OwnCount y w loops q [] xs = Unit {0}
OwnCount y w loops q (v ∷ vs) [] = Unit {0}

-- quotients that count from this number are those of common loops for both sides: how many steps each is at the sink from the source
abbrev pub SharedCount : Layout → Values → ℕ → List Level → Type 0
SharedCount y w q (v ∷ vs) =
    (has_shared y.setting y.symbols v ≡ true → (n : ℤ) × IsQuotient y.columns w q n × (value_at w.sink v ≡ value_at w.source v +ℤ v.range.step *ℤ n))
    × SharedCount y w (counted (has_shared y.setting y.symbols v) q) vs
SharedCount y w q [] = Unit {0}

-- both subscripts of each position, inside these loops, have forms that are complete and of one value, where both have a form; the loops of the source have the first values, those of the sink the second, and symbols the third (Allen and Kennedy, section 3.1)
abbrev pub AreEqual : Setting → List (List ℕ) → List ℤ → List ℤ → List ℤ → List Loop → List Loop → List ExprTree → List ExprTree → Type 0
AreEqual s names from to symbols L M (e ∷ es) (g ∷ gs) =
    ((f h : AffineForm) → form_at s names L e ≡ Some f → form_at s names M g ≡ Some h
    → IsComplete from symbols f × IsComplete to symbols h × (value_by from symbols f ≡ value_by to symbols h))
    × AreEqual s names from to symbols L M es gs
AreEqual s names from to symbols L M (e ∷ es) [] = Unit {0}
AreEqual s names from to symbols L M [] gs = Unit {0}

-- symbols that are the variable of no DO hold numbers of 32 bits (ANSI X3.9-1978, section 4.3)
abbrev pub AreSmall : Setting → List (List ℕ) → List ℤ → Type 0
AreSmall s (x ∷ xs) (n ∷ ns) = (is_among x s.loop_variables ≡ false → Lies n any_value) × AreSmall s xs ns
AreSmall s [] [] = Unit {0}
AreSmall s [] (n ∷ ns) = ⊥
AreSmall s (x ∷ xs) [] = ⊥
