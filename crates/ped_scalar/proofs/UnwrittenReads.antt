-- A scalar that a statement doesn't write: nothing that the statement does by itself overwrites it, and what refers to it reads it.
use Rattle.std.proofs.Common.{◌≡◌, ℕ, List, [], ◌∷◌, ◌++◌, map, Bool, true, false, ◌&&◌, ◌||◌, Option, Some, None, is_some, ◌⊎◌, inl, inr, if◌then◌else◌, refl, sym, ap, subst, ◌∙◌}
use Rattle.std.specs.Prelude.{codes}
use Rattle.std.specs.List.{list_any, list_all, flat_map}
use Rattle.std.proofs.lemmas.Bool.{and_parts, or_parts, or_left, or_right}
use Rattle.std.proofs.lemmas.List.Folds.{list_any-append}
use Rattle.ped_base.specs.Lists.{is_same_text, is_among}
use Rattle.ped_tree.specs.Tree.{ExprTree, ExprTrees, Int, Var, Element, Neg, Add, Sub, Mul, Div, Pow, Call, no_exprs, more_exprs, CondTree, Rel, Not, And, Or, ItemTree, Value, Text, Head, StmtTrees, Assign, If, Do, Print, Read}
use Rattle.ped_tree.specs.Accesses.{Access, listed, read_of, write_of, unless_constant, expr_reads, exprs_reads, cond_reads, left_accesses, item_reads, private_writes, own_accesses}
use Rattle.ped_tree.specs.Grammar.Fits.{takes_arguments}
use Rattle.ped_base.proofs.NameEquality.{same_is}
use Rattle.ped_rules.specs.ped_symbols.specs.Uses.{expr_count}
use Rattle.ped_rules.specs.ped_symbols.specs.declared.symbols.Kind.{Kind}
use Rattle.ped_rules.specs.ped_symbols.specs.declared.symbols.Kind.TheVariants.{Scalar, Array, Constant}
use Rattle.ped_rules.specs.ped_symbols.specs.RightUses.RightUses.{NameKinds, is_scalar, is_scalar_kind, is_array_kind, has_rank, is_rank, expr_is_right, exprs_are_right, target_is_right, cond_is_right, item_is_right, head_is_right}
use Rattle.ped_rules.specs.ped_flow.specs.Events.{Event, reads, assigns, event, scalars_in, all_scalars_in, scalars_in_cond, scalars_in_item, reads_of, left_events, own_events}
use Rattle.ped_rules.specs.ped_flow.specs.Summaries.{least_of, when, passing, of_manner, summary_in_turn, summary_either, summary_event, summary_events}
use Rattle.ped_rules.specs.ped_flow.proofs.SumLaws.{events-append}
use Rattle.ped_rules.specs.ped_flow.proofs.Truths.{untrue, or_split}
use Rattle.ped_rules.specs.ped_loop_runs.proofs.TidyLaws.TidyPathsSums.{Summary}

-- paths that go on, of which one leaves the scalar as it is, and one reads it first, where the truth value says that something refers to it
pub record IsStill (m : Summary) (referred : Bool) : Type 0 where
  pub keeps : m.keeps ≡ true
  pub reads : referred ≡ true → is_some m.first ≡ true

pub weaker : (m : Summary) (p q : Bool) → (q ≡ true → p ≡ true) → IsStill m p → IsStill m q
weaker m p q to h = record { keeps = h.keeps; reads = λ e. h.reads (to e) }

pub passing_still : IsStill passing false
passing_still = record { keeps = refl; reads = λ e. untrue e }

left_first : (a b : Option ℕ) → is_some a ≡ true → is_some (least_of a b) ≡ true
left_first None b h = untrue h
left_first (Some n) None h = refl
left_first (Some n) (Some m) h = refl

right_first : (a b : Option ℕ) → is_some b ≡ true → is_some (least_of a b) ≡ true
right_first None b h = h
right_first (Some n) None h = refl
right_first (Some n) (Some m) h = refl

pub in_turn_still : (a b : Summary) (p q : Bool) → IsStill a p → IsStill b q → IsStill (summary_in_turn a b) (p || q)
in_turn_still a b p q h k = record { keeps = λ i. h.keeps i && k.keeps i; reads = λ e. by (or_split p q e) }
  where
    by : (p ≡ true) ⊎ (q ≡ true) → is_some (least_of a.first (when a.keeps b.first)) ≡ true
    by (inl e) = left_first a.first (when a.keeps b.first) (h.reads e)
    by (inr e) = right_first a.first (when a.keeps b.first) (ap (λ (z : Bool). is_some (when z b.first)) h.keeps ∙ k.reads e)

pub either_still : (a b : Summary) (p q : Bool) → IsStill a p → IsStill b q → IsStill (summary_either a b) (p || q)
either_still a b p q h k = record { keeps = λ i. h.keeps i || k.keeps i; reads = λ e. by (or_split p q e) }
  where
    by : (p ≡ true) ⊎ (q ≡ true) → is_some (least_of a.first b.first) ≡ true
    by (inl e) = left_first a.first b.first (h.reads e)
    by (inr e) = right_first a.first b.first (k.reads e)

pub append_still : (x : List ℕ) (es fs : List Event) (p q : Bool) → IsStill (summary_events x es) p → IsStill (summary_events x fs) q → IsStill (summary_events x (es ++ fs)) (p || q)
append_still x es fs p q h k = subst (λ (m : Summary). IsStill m (p || q)) (sym (events-append x es fs)) (in_turn_still (summary_events x es) (summary_events x fs) p q h k)

read_still : (same : Bool) (n : ℕ) → IsStill (if same then of_manner reads n else passing) same
read_still true n = record { keeps = refl; reads = λ e. refl }
read_still false n = passing_still

reads_still : (x : List ℕ) (n : ℕ) (names : List (List ℕ)) → IsStill (summary_events x (reads_of n names)) (is_among x names)
reads_still x n [] = passing_still
reads_still x n (y ∷ ys) = in_turn_still (summary_event x (event n reads y)) (summary_events x (reads_of n ys)) (is_same_text x y) (is_among x ys) (read_still (is_same_text x y) n) (reads_still x n ys)

or_first : (a b : Bool) → b ≡ false → (a || b) ≡ true → a ≡ true
or_first true b n e = refl
or_first false b n e = untrue (sym n ∙ e)

-- an access of the name, and one that writes it
abbrev pub is_of : List ℕ → Access → Bool
is_of x a = is_same_text x a.name

abbrev pub is_write_of : List ℕ → Access → Bool
is_write_of x a = is_same_text x a.name && a.writes

module _ (constants : List (List ℕ)) (x : List ℕ) (kinds : NameKinds) (scalar : is_scalar kinds x ≡ true) where
  -- where an access is of the scalar, the scalar is among these names
  abbrev AreRead : List Access → List (List ℕ) → Type 0
  AreRead accesses names = list_any (is_of x) accesses ≡ true → is_among x names ≡ true

  both_read : (p q : List Access) (u v : List (List ℕ)) → AreRead p u → AreRead q v → AreRead (p ++ q) (u ++ v)
  both_read p q u v h k e = list_any-append (is_same_text x) u v ∙ go (or_split (list_any (is_of x) p) (list_any (is_of x) q) (sym (list_any-append (is_of x) p q) ∙ e))
    where
      go : (list_any (is_of x) p ≡ true) ⊎ (list_any (is_of x) q ≡ true) → (is_among x u || is_among x v) ≡ true
      go (inl a) = or_left (is_among x u) (is_among x v) (h a)
      go (inr b) = or_right (is_among x u) (is_among x v) (k b)

  front_read : (p q : List Access) (u : List (List ℕ)) → list_any (is_of x) q ≡ false → AreRead p u → AreRead (p ++ q) u
  front_read p q u none h e = h (or_first (list_any (is_of x) p) (list_any (is_of x) q) none (sym (list_any-append (is_of x) p q) ∙ e))

  variable_read : (i c : Bool) (y : List ℕ) → AreRead (if i then [] else (if c then [] else read_of y [] ∷ [])) (if c then [] else y ∷ [])
  variable_read true c y e = untrue e
  variable_read false true y e = untrue e
  variable_read false false y e = e

  clash : (o : Option Kind) (rank : ℕ) → is_scalar_kind o ≡ true → is_array_kind rank o ≡ true → ⊥
  clash None rank h k = untrue h
  clash (Some Scalar) rank h k = untrue k
  clash (Some (Array d)) rank h k = untrue h
  clash (Some (Constant n)) rank h k = untrue h

  -- an array is another variable
  array_other : (y : List ℕ) (rank : ℕ) → has_rank kinds rank y ≡ true → is_same_text x y ≡ false
  array_other y rank h = go (is_same_text x y) refl
    where
      go : (b : Bool) → is_same_text x y ≡ b → b ≡ false
      go true e = absurd (clash (kinds y) rank (ap (is_scalar kinds) (sym (same_is x y e)) ∙ scalar) h)
      go false e = refl

  unless_other : (c : Bool) (a : Access) → is_same_text x a.name ≡ false → list_any (is_of x) (if c then [] else a ∷ []) ≡ false
  unless_other true a e = refl
  unless_other false a e = λ i. e i || false

  element_other : (a : Access) (es : ExprTrees) → expr_is_right kinds (Element a.name es) ≡ true → list_any (is_of x) (unless_constant constants a) ≡ false
  element_other a es r =
      let parts = and_parts (has_rank kinds (expr_count es) a.name && is_rank (expr_count es)) (exprs_are_right kinds es) r in
      unless_other (is_among a.name constants) a (array_other a.name (expr_count es) (and_parts (has_rank kinds (expr_count es) a.name) (is_rank (expr_count es)) parts.0).0)

  subscripts_right : (y : List ℕ) (es : ExprTrees) → expr_is_right kinds (Element y es) ≡ true → exprs_are_right kinds es ≡ true
  subscripts_right y es r = (and_parts (has_rank kinds (expr_count es) y && is_rank (expr_count es)) (exprs_are_right kinds es) r).1

  module _ (indices : List (List ℕ)) where
    mutual
      expr_read : (e : ExprTree) → expr_is_right kinds e ≡ true → AreRead (expr_reads constants indices e) (scalars_in constants e)
      expr_read (Int n) r = λ e. untrue e
      expr_read (Var y) r = variable_read (is_among y indices) (is_among y constants) y
      expr_read (Element y es) r =
          front_read (exprs_reads constants indices es) (unless_constant constants (read_of y (listed es))) (all_scalars_in constants es) (element_other (read_of y (listed es)) es r)
          (exprs_read es (subscripts_right y es r))
      expr_read (Neg a) r = expr_read a r
      expr_read (Add a b) r =
          let parts = and_parts (expr_is_right kinds a) (expr_is_right kinds b) r in
          both_read (expr_reads constants indices a) (expr_reads constants indices b) (scalars_in constants a) (scalars_in constants b) (expr_read a parts.0) (expr_read b parts.1)
      expr_read (Sub a b) r =
          let parts = and_parts (expr_is_right kinds a) (expr_is_right kinds b) r in
          both_read (expr_reads constants indices a) (expr_reads constants indices b) (scalars_in constants a) (scalars_in constants b) (expr_read a parts.0) (expr_read b parts.1)
      expr_read (Mul a b) r =
          let parts = and_parts (expr_is_right kinds a) (expr_is_right kinds b) r in
          both_read (expr_reads constants indices a) (expr_reads constants indices b) (scalars_in constants a) (scalars_in constants b) (expr_read a parts.0) (expr_read b parts.1)
      expr_read (Div a b) r =
          let parts = and_parts (expr_is_right kinds a) (expr_is_right kinds b) r in
          both_read (expr_reads constants indices a) (expr_reads constants indices b) (scalars_in constants a) (scalars_in constants b) (expr_read a parts.0) (expr_read b parts.1)
      expr_read (Pow a b) r =
          let parts = and_parts (expr_is_right kinds a) (expr_is_right kinds b) r in
          both_read (expr_reads constants indices a) (expr_reads constants indices b) (scalars_in constants a) (scalars_in constants b) (expr_read a parts.0) (expr_read b parts.1)
      expr_read (Call f es) r = exprs_read es (and_parts (takes_arguments f es) (exprs_are_right kinds es) r).1

      exprs_read : (es : ExprTrees) → exprs_are_right kinds es ≡ true → AreRead (exprs_reads constants indices es) (all_scalars_in constants es)
      exprs_read no_exprs r = λ e. untrue e
      exprs_read (more_exprs e rest) r =
          let parts = and_parts (expr_is_right kinds e) (exprs_are_right kinds rest) r in
          both_read (expr_reads constants indices e) (exprs_reads constants indices rest) (scalars_in constants e) (all_scalars_in constants rest) (expr_read e parts.0) (exprs_read rest parts.1)

    two_read : (a b : ExprTree) → expr_is_right kinds a ≡ true → expr_is_right kinds b ≡ true → AreRead (expr_reads constants indices a ++ expr_reads constants indices b) (scalars_in constants a ++ scalars_in constants b)
    two_read a b r q = both_read (expr_reads constants indices a) (expr_reads constants indices b) (scalars_in constants a) (scalars_in constants b) (expr_read a r) (expr_read b q)

    cond_read : (c : CondTree) → cond_is_right kinds c ≡ true → AreRead (cond_reads constants indices c) (scalars_in_cond constants c)
    cond_read (Rel o a b) r = let parts = and_parts (expr_is_right kinds a) (expr_is_right kinds b) r in two_read a b parts.0 parts.1
    cond_read (Not a) r = cond_read a r
    cond_read (And a b) r =
        let parts = and_parts (cond_is_right kinds a) (cond_is_right kinds b) r in
        both_read (cond_reads constants indices a) (cond_reads constants indices b) (scalars_in_cond constants a) (scalars_in_cond constants b) (cond_read a parts.0) (cond_read b parts.1)
    cond_read (Or a b) r =
        let parts = and_parts (cond_is_right kinds a) (cond_is_right kinds b) r in
        both_read (cond_reads constants indices a) (cond_reads constants indices b) (scalars_in_cond constants a) (scalars_in_cond constants b) (cond_read a parts.0) (cond_read b parts.1)

    item_read : (item : ItemTree) → item_is_right kinds item ≡ true → AreRead (item_reads constants indices item) (scalars_in_item constants item)
    item_read (Value e) r = expr_read e r
    item_read (Text text) r = λ e. untrue e

    items_read : (items : List ItemTree) → list_all (item_is_right kinds) items ≡ true → AreRead (flat_map (item_reads constants indices) items) (flat_map (scalars_in_item constants) items)
    items_read [] r = λ e. untrue e
    items_read (item ∷ rest) r =
        let parts = and_parts (item_is_right kinds item) (list_all (item_is_right kinds) rest) r in
        both_read (item_reads constants indices item) (flat_map (item_reads constants indices) rest) (scalars_in_item constants item) (flat_map (scalars_in_item constants) rest) (item_read item parts.0) (items_read rest parts.1)

    private_none : (names : List (List ℕ)) → is_among x names ≡ false → list_any (is_of x) (private_writes constants names) ≡ false
    private_none [] h = refl
    private_none (y ∷ ys) h =
        let parts = or_parts (is_same_text x y) (is_among x ys) h in
        list_any-append (is_of x) (unless_constant constants (write_of y [])) (private_writes constants ys)
        ∙ λ i. unless_other (is_among y constants) (write_of y []) parts.0 i || private_none ys parts.1 i

    -- what isn't written isn't assigned
    module _ (n : ℕ) where
      names_still : (accesses : List Access) (names : List (List ℕ)) → AreRead accesses names → IsStill (summary_events x (reads_of n names)) (list_any (is_of x) accesses)
      names_still accesses names h = weaker (summary_events x (reads_of n names)) (is_among x names) (list_any (is_of x) accesses) h (reads_still x n names)

      other_still : (y : List ℕ) → is_same_text x y ≡ false → IsStill (summary_events x (event n assigns y ∷ [])) false
      other_still y e = subst (λ (b : Bool). IsStill (summary_in_turn (if b then of_manner assigns n else passing) passing) false) (sym e) (record { keeps = refl; reads = λ e. untrue e })

      assigned_still : (c same : Bool) (y : List ℕ) → is_same_text x y ≡ same → list_any (is_write_of x) (if c then [] else write_of y [] ∷ []) ≡ false
          → IsStill (summary_events x (map (event n assigns) (if c then [] else y ∷ []))) (list_any (is_of x) (if c then [] else write_of y [] ∷ []))
      assigned_still true same y e u = passing_still
      assigned_still false true y e u = let z : true ≡ false = sym (λ i. (e i && true) || false) ∙ u in untrue (sym z)
      assigned_still false false y e u = subst (λ (b : Bool). IsStill (summary_events x (event n assigns y ∷ [])) (b || false)) (sym e) (other_still y e)

      left_still : (left : ExprTree) → target_is_right kinds left ≡ true → list_any (is_write_of x) (left_accesses constants indices left) ≡ false
          → IsStill (summary_events x (left_events constants n left)) (list_any (is_of x) (left_accesses constants indices left))
      left_still (Var y) r u = assigned_still (is_among y constants) (is_same_text x y) y refl u
      left_still (Element y es) r u =
          names_still (left_accesses constants indices (Element y es)) (all_scalars_in constants es)
          (front_read (exprs_reads constants indices es) (unless_constant constants (write_of y (listed es))) (all_scalars_in constants es) (element_other (write_of y (listed es)) es r)
          (exprs_read es (subscripts_right y es r)))
      left_still (Int k) r u = untrue r
      left_still (Neg a) r u = untrue r
      left_still (Add a b) r u = untrue r
      left_still (Sub a b) r u = untrue r
      left_still (Mul a b) r u = untrue r
      left_still (Div a b) r u = untrue r
      left_still (Pow a b) r u = untrue r
      left_still (Call f es) r u = untrue r

      not_written : (same : Bool) → (same && true) ≡ false → same ≡ false
      not_written true u = untrue (sym u)
      not_written false u = refl

      unwritten_parts : (p q : List Access) → list_any (is_write_of x) (p ++ q) ≡ false → (list_any (is_write_of x) p ≡ false) × (list_any (is_write_of x) q ≡ false)
      unwritten_parts p q u = or_parts (list_any (is_write_of x) p) (list_any (is_write_of x) q) (sym (list_any-append (is_write_of x) p q) ∙ u)

      two_still : (p q : List Access) (es fs : List Event) → IsStill (summary_events x es) (list_any (is_of x) p) → IsStill (summary_events x fs) (list_any (is_of x) q) → IsStill (summary_events x (es ++ fs)) (list_any (is_of x) (p ++ q))
      two_still p q es fs h k = subst (λ (b : Bool). IsStill (summary_events x (es ++ fs)) b) (sym (list_any-append (is_of x) p q)) (append_still x es fs (list_any (is_of x) p) (list_any (is_of x) q) h k)

      lefts_still : (items : List ExprTree) → list_all (target_is_right kinds) items ≡ true → list_any (is_write_of x) (flat_map (left_accesses constants indices) items) ≡ false
          → IsStill (summary_events x (flat_map (left_events constants n) items)) (list_any (is_of x) (flat_map (left_accesses constants indices) items))
      lefts_still [] r u = passing_still
      lefts_still (e ∷ rest) r u =
          let right = and_parts (target_is_right kinds e) (list_all (target_is_right kinds) rest) r in
          let parts = unwritten_parts (left_accesses constants indices e) (flat_map (left_accesses constants indices) rest) u in
          two_still (left_accesses constants indices e) (flat_map (left_accesses constants indices) rest) (left_events constants n e) (flat_map (left_events constants n) rest)
          (left_still e right.0 parts.0) (lefts_still rest right.1 parts.1)

      pub assignment_still : (left right : ExprTree) → (target_is_right kinds left && expr_is_right kinds right) ≡ true → list_any (is_write_of x) (own_accesses constants indices (Assign left right)) ≡ false
          → IsStill (summary_events x (own_events constants n (Assign left right))) (list_any (is_of x) (own_accesses constants indices (Assign left right)))
      assignment_still left right r u =
          let parts = and_parts (target_is_right kinds left) (expr_is_right kinds right) r in
          two_still (expr_reads constants indices right) (left_accesses constants indices left) (reads_of n (scalars_in constants right)) (left_events constants n left)
          (names_still (expr_reads constants indices right) (scalars_in constants right) (expr_read right parts.1))
          (left_still left parts.0 (unwritten_parts (expr_reads constants indices right) (left_accesses constants indices left) u).1)

      pub condition_still : (c : CondTree) (a b : StmtTrees) → cond_is_right kinds c ≡ true → IsStill (summary_events x (own_events constants n (If c a b))) (list_any (is_of x) (own_accesses constants indices (If c a b)))
      condition_still c a b r = names_still (cond_reads constants indices c) (scalars_in_cond constants c) (cond_read c r)

      pub entry_still : (h : Head) (b : StmtTrees) → head_is_right kinds h ≡ true → is_same_text x h.variable ≡ false → is_among x h.private ≡ false
          → IsStill (summary_events x (own_events constants n (Do h b))) (list_any (is_of x) (own_accesses constants indices (Do h b)))
      entry_still h b r other apart =
          let all = and_parts (is_scalar kinds h.variable && expr_is_right kinds h.first && expr_is_right kinds h.last && expr_is_right kinds h.step) (list_all (is_scalar kinds) h.private) r in
          let step = and_parts (is_scalar kinds h.variable && expr_is_right kinds h.first && expr_is_right kinds h.last) (expr_is_right kinds h.step) all.0 in
          let last = and_parts (is_scalar kinds h.variable && expr_is_right kinds h.first) (expr_is_right kinds h.last) step.0 in
          let first = and_parts (is_scalar kinds h.variable) (expr_is_right kinds h.first) last.0 in
          let names : List (List ℕ) = scalars_in constants h.first ++ scalars_in constants h.last in
          let read = front_read (expr_reads constants indices h.first ++ expr_reads constants indices h.last) (private_writes constants h.private) names (private_none h.private apart) (two_read h.first h.last first.1 last.1) in
          weaker (summary_events x (own_events constants n (Do h b))) (is_among x names || false) (list_any (is_of x) (own_accesses constants indices (Do h b)))
          (λ e. or_left (is_among x names) false (read e))
          (append_still x (reads_of n names) (event n assigns h.variable ∷ []) (is_among x names) false (reads_still x n names) (other_still h.variable other))

      pub output_still : (items : List ItemTree) → list_all (item_is_right kinds) items ≡ true → list_any (is_write_of x) (own_accesses constants indices (Print items)) ≡ false
          → IsStill (summary_events x (own_events constants n (Print items))) (list_any (is_of x) (own_accesses constants indices (Print items)))
      output_still items r u =
          let parts = unwritten_parts (flat_map (item_reads constants indices) items) (write_of (codes "(OUT)") [] ∷ []) u in
          let other = not_written (is_same_text x (codes "(OUT)")) (or_parts (is_same_text x (codes "(OUT)") && true) false parts.1).0 in
          names_still (own_accesses constants indices (Print items)) (flat_map (scalars_in_item constants) items)
          (front_read (flat_map (item_reads constants indices) items) (write_of (codes "(OUT)") [] ∷ []) (flat_map (scalars_in_item constants) items) (λ i. other i || false) (items_read items r))

      pub input_still : (items : List ExprTree) → list_all (target_is_right kinds) items ≡ true → list_any (is_write_of x) (own_accesses constants indices (Read items)) ≡ false
          → IsStill (summary_events x (own_events constants n (Read items))) (list_any (is_of x) (own_accesses constants indices (Read items)))
      input_still items r u =
          let parts = or_parts (is_same_text x (codes "(IN)") && true) (list_any (is_write_of x) (flat_map (left_accesses constants indices) items)) u in
          let other = not_written (is_same_text x (codes "(IN)")) parts.0 in
          subst (λ (b : Bool). IsStill (summary_events x (flat_map (left_events constants n) items)) (b || list_any (is_of x) (flat_map (left_accesses constants indices) items))) (sym other) (lefts_still items r parts.1)
