-- Where statements of a unit stand in the expansion: what their names are on both sides, and where their trace lies in the whole trace.
use Rattle.std.proofs.Common.{◌≡◌, ℕ, ◌+◌, ◌≤◌, ◌<◌, ℤ, List, [], ◌∷◌, ◌++◌, Bool, true, false, ◌||◌, Some, None, refl, sym, ap, ◌∙◌, subst, ◌⊎◌, arith}
use Rattle.std.proofs.lemmas.Bool.{both_ways}
use Rattle.ped_base.specs.Lists.{is_same_text, is_among}
use Rattle.ped_base.proofs.NameEquality.{same_flip}
use Rattle.ped_tree.specs.Constants.ConstantExpressions.{constant_value}
use Rattle.ped_tree.specs.Constants.NamedConstants.{value_named}
use Rattle.ped_tree.specs.NamesIn.{expr_names, exprs_names}
use Rattle.ped_tree.specs.Tree.{ExprTree, ExprTrees, Int, Var, Element, Neg, Add, Sub, Mul, Div, Pow, Call, no_exprs, more_exprs}
use Rattle.ped_steps.specs.ped_symbolic.specs.Arithmetic.{literal}
use Rattle.ped_steps.specs.ped_symbols.specs.Values.{Values, fixed_value}
use Rattle.ped_calls.specs.Giving.{IsSmall}
use Rattle.ped_calls.specs.ped_units.specs.Units.{ProgramUnit, ProgramUnits, all_units}
use Rattle.ped_calls.specs.ped_units.specs.Linking.{IsIn}
use Rattle.ped_calls.specs.ped_units.specs.Expanding.{Given, Meanings, meaning, name_or, name_meant, replaced, all_replaced, is_variable_name, constants_of, nothing_given}
use Rattle.ped_steps.specs.ped_eval.specs.Scopes.{Setting}
use Rattle.ped_call_runs.specs.UnitRuns.{own, Instance}
use Rattle.ped_call_runs.proofs.EachNames.{Each, each_front, each_behind, each_joined}
use Rattle.ped_call_runs.proofs.FollowingStores.{Bond}
use Rattle.ped_call_runs.proofs.FollowingNames.{MeansAlike, NamedAlike}
use Rattle.ped_call_runs.proofs.GivenMore.{GivesMore}
use Rattle.ped_call_runs.proofs.Traces.{Trace, first_bond}
use Rattle.ped_call_runs.proofs.PlacedNumbers.{IsPlaced}
use Rattle.ped_call_runs.proofs.OwnNames.{firsts, OwnIn, outside_in, own_apart}
use Rattle.ped_call_runs.proofs.RenamedEntries.{HasPair, pair_front, pair_behind}
use Rattle.ped_call_runs.proofs.WrittenNames.{IsName}
use Rattle.ped_call_runs.proofs.UnitNames.{IsPlain}
use Rattle.ped_call_runs.proofs.UnitArrays.{IsArray}
use Rattle.ped_call_runs.proofs.SuitedUnits.{Reads, Writes}

-- a name that is none of the own of CALLs from this number on
abbrev pub IsOld : ℕ → List ℕ → Type 0
IsOld lo y = (m : ℕ) (x : List ℕ) → lo ≤ m → is_same_text (own m x) y ≡ false

-- an expression that is a name as it is written, where it is a variable
abbrev pub IsWritten : ExprTree → Type 0
IsWritten e = (y : List ℕ) → e ≡ Var y → IsName y

-- a variable, or a literal that isn't too large
abbrev pub IsNameOrLiteral : ExprTree → Type 0
IsNameOrLiteral e = ((y : List ℕ) × (e ≡ Var y)) ⊎ ((n : ℤ) × IsSmall n × (e ≡ literal n))

-- names in expressions that are written
module _ (k : Meanings) where
  abbrev pub WrittenName : List ℕ → Type 0
  WrittenName x = IsWritten (meaning k x)

  -- the name that stands for a name
  pub meant_written : (x : List ℕ) → IsName (name_meant k x) → IsWritten (meaning k x)
  meant_written x h y e = subst IsName (ap (name_or x) e) h

  var_written : (e : ExprTree) → Each IsName (expr_names e) → IsWritten e
  var_written e h y is = (subst (λ (z : ExprTree). Each IsName (expr_names z)) is h).0

  both_written : (a b : ExprTree) → Each WrittenName (expr_names a) → Each WrittenName (expr_names b) → Each WrittenName (expr_names a ++ expr_names b)
  both_written a b h l = each_joined WrittenName (expr_names a) (expr_names b) h l

  mutual
    pub written_in : (e : ExprTree) → Each IsName (expr_names (replaced k e)) → Each WrittenName (expr_names e)
    written_in (Int n) h = tt
    written_in (Var x) h = (var_written (meaning k x) h, tt)
    written_in (Element x es) h = (meant_written x h.0, all_written_in es h.1)
    written_in (Neg a) h = written_in a h
    written_in (Add a b) h = both_written a b (written_in a (each_front IsName (expr_names (replaced k a)) (expr_names (replaced k b)) h)) (written_in b (each_behind IsName (expr_names (replaced k a)) (expr_names (replaced k b)) h))
    written_in (Sub a b) h = both_written a b (written_in a (each_front IsName (expr_names (replaced k a)) (expr_names (replaced k b)) h)) (written_in b (each_behind IsName (expr_names (replaced k a)) (expr_names (replaced k b)) h))
    written_in (Mul a b) h = both_written a b (written_in a (each_front IsName (expr_names (replaced k a)) (expr_names (replaced k b)) h)) (written_in b (each_behind IsName (expr_names (replaced k a)) (expr_names (replaced k b)) h))
    written_in (Div a b) h = both_written a b (written_in a (each_front IsName (expr_names (replaced k a)) (expr_names (replaced k b)) h)) (written_in b (each_behind IsName (expr_names (replaced k a)) (expr_names (replaced k b)) h))
    written_in (Pow a b) h = both_written a b (written_in a (each_front IsName (expr_names (replaced k a)) (expr_names (replaced k b)) h)) (written_in b (each_behind IsName (expr_names (replaced k a)) (expr_names (replaced k b)) h))
    written_in (Call f es) h = all_written_in es h

    pub all_written_in : (es : ExprTrees) → Each IsName (exprs_names (all_replaced k es)) → Each WrittenName (exprs_names es)
    all_written_in no_exprs h = tt
    all_written_in (more_exprs e rest) h =
        each_joined WrittenName (expr_names e) (exprs_names rest) (written_in e (each_front IsName (expr_names (replaced k e)) (exprs_names (all_replaced k rest)) h))
        (all_written_in rest (each_behind IsName (expr_names (replaced k e)) (exprs_names (all_replaced k rest)) h))

-- the pairs of a piece, whose CALLs have numbers from the first to below the second, among all pairs, where their new names are names
pub record IsWithin (pairs : List (List ℕ × List ℕ)) (lo hi : ℕ) (ps : List (List ℕ × List ℕ)) : Type 0 where
  pub inside : (x y : List ℕ) → IsName y → HasPair x y ps → HasPair x y pairs
  pub only : (m : ℕ) (x : List ℕ) → lo ≤ m → m < hi → is_among (own m x) (firsts pairs) ≡ true → is_among (own m x) (firsts ps) ≡ true

pub firsts_joined : (y : List ℕ) (ps qs : List (List ℕ × List ℕ)) → is_among y (firsts (ps ++ qs)) ≡ is_among y (firsts ps) || is_among y (firsts qs)
firsts_joined y [] qs = refl
firsts_joined y (p ∷ ps) qs = ap (λ (t : Bool). is_same_text y p.0 || t) (firsts_joined y ps qs) ∙ turned (is_same_text y p.0) (is_among y (firsts ps)) (is_among y (firsts qs))
  where
    turned : (a b c : Bool) → (a || (b || c)) ≡ ((a || b) || c)
    turned true b c = refl
    turned false b c = refl

-- a name of a CALL with a greater number
later_outside : (lo mid m : ℕ) (x : List ℕ) (ps : List (List ℕ × List ℕ)) → mid ≤ m → OwnIn lo mid ps → is_among (own m x) (firsts ps) ≡ false
later_outside lo mid m x [] h a = refl
later_outside lo mid m x (p ∷ ps) h a = λ i. apart i || later_outside lo mid m x ps h a.1 i
  where
    apart : is_same_text (own m x) p.0 ≡ false
    apart =
        ap (is_same_text (own m x)) a.0.is
        ∙ same_flip (own m x) (own a.0.number a.0.name)
        ∙ own_apart a.0.number m a.0.name x (let to = a.0.to in omega (arith, to, h))

pub only_first : (a b : Bool) → a || b ≡ true → b ≡ false → a ≡ true
only_first true b h k = refl
only_first false b h k = absurd (both_ways b k h)

only_second : (a b : Bool) → a || b ≡ true → a ≡ false → b ≡ true
only_second true b h k = absurd cc
only_second false b h k = h

module _ (pairs : List (List ℕ × List ℕ)) where
  pub within_first : (lo mid hi : ℕ) (ps qs : List (List ℕ × List ℕ)) → mid ≤ hi → IsWithin pairs lo hi (ps ++ qs) → OwnIn mid hi qs → IsWithin pairs lo mid ps
  within_first lo mid hi ps qs less w a = record {
    inside = λ x y is h. w.inside x y is (pair_front x y ps qs h);
    only = λ m x from to h.
        only_first (is_among (own m x) (firsts ps)) (is_among (own m x) (firsts qs)) (sym (firsts_joined (own m x) ps qs) ∙ w.only m x from (omega (arith, to, less)) h)
        (outside_in lo mid hi (own m x) qs (record { number = m; name = x; is = refl; from = from; to = to }) a);
  }

  pub within_second : (low lo mid hi : ℕ) (ps qs : List (List ℕ × List ℕ)) → lo ≤ mid → IsWithin pairs lo hi (ps ++ qs) → OwnIn low mid ps → IsWithin pairs mid hi qs
  within_second low lo mid hi ps qs less w a = record {
    inside = λ x y is h. w.inside x y is (pair_behind x y ps qs h);
    only = λ m x from to h.
        only_second (is_among (own m x) (firsts ps)) (is_among (own m x) (firsts qs)) (sym (firsts_joined (own m x) ps qs) ∙ w.only m x (omega (arith, from, less)) to h)
        (later_outside low mid m x ps from a);
  }

  -- of fewer CALLs
  pub within_fewer : (lo hi lower higher : ℕ) (ps : List (List ℕ × List ℕ)) → lo ≤ lower → higher ≤ hi → IsWithin pairs lo hi ps → IsWithin pairs lower higher ps
  within_fewer lo hi lower higher ps h k w = record { inside = w.inside; only = λ m x from to. w.only m x (omega (arith, from, h)) (omega (arith, to, k)) }

-- what is known of an expansion as a whole: its pairs and gaps, what is given at last, its setting
module _ (us : ProgramUnits) (pairs : List (List ℕ × List ℕ)) (gaps : List ℕ) (top : Given) (f : List ℕ → List ℕ) (q : Setting) where
  -- a piece of a unit stands in the whole: by its numbers in the unit and in the expansion, what it counts as in both, its trace, the names that it has in the expansion, and what is given before it and behind it
  pub record IsPiece (n j size count : ℕ) (t : Trace) (there : List (List ℕ)) (g h : Given) : Type 0 where
    pub placed : IsPlaced gaps n j count t.gaps
    pub within : IsWithin pairs n (n + size) t.pairs
    pub names : Each IsName there
    pub before : GivesMore (nothing_given us) g
    pub later : GivesMore h top

  -- the names of a unit whose statements count from this number on
  pub record Context (u : ProgramUnit) (lo : ℕ) (b : List ℕ → Bond) (k : Meanings) (i : Instance) : Type 0 where
    pub is_unit : IsIn u (all_units us)
    pub constants : i.constants ≡ constants_of u
    pub reads : (x : List ℕ) → Reads us u x → IsWritten (meaning k x) → MeansAlike b f i.setting q i.stands k x
    pub old : (x : List ℕ) → Reads us u x → IsWritten (meaning k x) → (y : List ℕ) → meaning i.stands x ≡ Var y → IsOld lo y
    pub writes : (x : List ℕ) → Writes us u x → IsWritten (meaning k x) → NamedAlike b f i.setting q i.stands k x
    pub arrays : (x : List ℕ) → Reads us u x → IsArray u x → IsWritten (meaning k x) → NamedAlike b f i.setting q i.stands k x
    pub fixed : (x : List ℕ) → Reads us u x → (n : ℤ) → value_named (constants_of u) x ≡ Some n → (constant_value q.constants (meaning k x) ≡ Some n) × (constant_value i.setting.constants (meaning i.stands x) ≡ Some n)
    pub shape : (x : List ℕ) → Reads us u x → IsPlain u x → IsNameOrLiteral (meaning k x)
    pub fresh : (m : ℕ) (x : List ℕ) → lo ≤ m → value_named i.setting.constants (own m x) ≡ None
    pub unknown : (m : ℕ) (x : List ℕ) → lo ≤ m → b (own m x) ≡ first_bond pairs (own m x)
    pub number : (n : ℕ) → i.setting.number n ≡ n

  -- named constants by which arguments of the unit's CALLs are told
  pub record Telling (u : ProgramUnit) (k : Meanings) (constants : Values) : Type 0 where
    pub no_name : (a : ExprTree) → Each (Reads us u) (expr_names a) → is_variable_name (constants_of u) a ≡ false → is_variable_name constants (replaced k a) ≡ false
    pub name : (x : List ℕ) → Reads us u x → IsPlain u x → (is_variable_name constants (meaning k x) ≡ true) ⊎ ((n : ℤ) × (is_variable_name constants (meaning k x) ≡ false) × (fixed_value constants (meaning k x) ≡ Some n) × (meaning k x ≡ literal n))
    pub more : (e : ExprTree) (v : ℤ) → constant_value constants e ≡ Some v → constant_value q.constants e ≡ Some v
    pub unowned : (y : List ℕ) (v : ℤ) → value_named constants y ≡ Some v → IsName y
