-- The three statements that come in the place of a sum: they go on, and their acts come from that of the sum.
use Rattle.std.proofs.Common.{◌≡◌, ℕ, ℤ, pos, ◌+ℤ◌, ◌-ℤ◌, int_div, int_rem, List, [], ◌∷◌, ◌++◌, Bool, true, false, ◌&&◌, ◌⊎◌, inl, inr, Result, Ok, refl, sym, ap, subst, ◌∙◌, arith}
use Rattle.std.specs.Ordering.{int_eq}
use Rattle.std.specs.Cmp.Lexicographic.{pointwise}
use Rattle.std.proofs.lemmas.Bool.{and_parts, both_ways, or_parts}
use Rattle.std.proofs.lemmas.Int.{ints}
use Rattle.ped_base.specs.Lists.{is_same_text}
use Rattle.ped_base.proofs.NameEquality.{same_is}
use Rattle.ped_base.specs.declared.arithmetic.faults.Fault.{Fault}
use Rattle.ped_base.specs.Arithmetic.Arithmetic.{in_range, sum_of, quotient_of, remainder_of}
use Rattle.ped_tree.specs.Constants.ConstantExpressions.{intrinsic_result}
use Rattle.ped_tree.specs.declared.expressions.Intrinsic.TheVariants.{Mod}
use Rattle.ped_tree.specs.Tree.{ExprTree, Int, Add, Div, Call, no_exprs, more_exprs}
use Rattle.ped_tree.specs.NamesIn.{expr_names}
use Rattle.ped_rules.specs.ped_store.specs.Cells.{Cell, Scalar, same_cell}
use Rattle.ped_rules.specs.ped_store.specs.Stores.{Content, Number, Store, put, number_read}
use Rattle.ped_rules.specs.ped_store.specs.Acts.{Manner, reads, is_told, Touch, Place, did, Act}
use Rattle.ped_rules.specs.ped_laws.specs.Acts.Orders.{IsIn}
use Rattle.ped_rules.specs.ped_laws.specs.Acts.Sets.{written_by}
use Rattle.ped_rules.specs.ped_laws.proofs.ActLaws.SameCells.{text_itself, cell_itself, other_cell}
use Rattle.ped_rules.specs.ped_laws.proofs.ActLaws.Stores.{put_same, put_other}
use Rattle.ped_rules.specs.ped_eval.specs.Scopes.{Names}
use Rattle.ped_rules.specs.ped_eval.specs.Evaluation.{Seen, cell_seen, index_seen, Evaluated, onward, ◌>>>◌, given, by_number}
use Rattle.ped_rules.specs.ped_eval.specs.Values.{binary, of_intrinsic, value}
use Rattle.ped_rules.specs.ped_eval.specs.Runs.{Ending, going, Run, nothing_done, followed_by, then_run, run_assignment}
use Rattle.ped_rules.specs.ped_laws.specs.Runs.Replaying.{act}
use Rattle.ped_rules.specs.ped_laws.specs.Runs.Seeing.{Holds}
use Rattle.ped_rules.specs.ped_laws.proofs.RunLaws.SeenCells.{AllSeen}
use Rattle.ped_rules.specs.ped_laws.proofs.RunLaws.Sight.{value_told}
use Rattle.ped_reduce.specs.Sums.{Sum, plus, minus}
use Rattle.ped_reduce.specs.Lowering.{Partials, at, with_sum}
use Rattle.ped_reduce.proofs.SplitSums.{Is32, AreParts, AreNewParts, storable_32, no_parts, split_sum}
use Rattle.ped_reduce.proofs.SumStores.{is_array_of, is_array, is_total, is_either, is_apart, is_own, part, Adds, Within, AreSmall, AreDistinct, AreThree, HaveArrays, high_array, low_array, flag_array, total_apart, array_apart, adds_same}
use Rattle.ped_reduce.proofs.SumSight as sight
use Rattle.ped_reduce.proofs.SumSteps.{operand, changed, AllSeenBy, AllTouchBy, by_append, IsTouched, StandsAt, CameOfSum, RunOfPart, two_comes, element_comes, part_runs, seen_map}

-- where a touch comes from: from one of the old touches; from no cell, as the value of the DO's variable is told by the place; or it is of an element of the arrays of a scalar that the old touches write
abbrev pub Origin : List Partials → ℤ → Cell → List Touch → Manner → Cell → Type 0
Origin ps k told ts m c = IsTouched ts m c ⊎ (((m ≡ is_told) × (c ≡ told)) ⊎ ((p : Partials) × IsIn p ps × (x : List ℕ) × (is_array_of p x ≡ true) × (c ≡ part x k) × (written_by ts (Scalar p.scalar) ≡ true)))

-- an act comes from another, done in the same iterations
pub record ComesFrom (ps : List Partials) (k : ℤ) (told : Cell) (a b : Act) : Type 0 where
  pub turns : b.place.turns ≡ a.place.turns
  pub touches : AllTouchBy (Origin ps k told a.touches) b.touches

-- a value that has come, where all that is seen is of this kind
pub record Good (Q : Manner → Cell → Type 0) (e : Evaluated ℤ) (z : ℤ) : Type 0 where
  pub result : e.result ≡ Ok z
  pub by : AllSeenBy Q e.seen

pub good_two : (Q : Manner → Cell → Type 0) (f : ℤ → ℤ → Result ℤ Fault) (a b : Evaluated ℤ) (x y z : ℤ) → Good Q a x → Good Q b y → by_number (f x y) ≡ Ok z → Good Q (binary f a b) z
good_two Q f a b x y z g h e =
    let is = two_comes f a b x y z g.result h.result e in
    record {
      result = ap (λ (w : Evaluated ℤ). w.result) is;
      by = subst (AllSeenBy Q) (sym (ap (λ (w : Evaluated ℤ). w.seen) is)) (by_append Q a.seen (b.seen ++ []) g.by (by_append Q b.seen [] h.by tt));
    }

-- a run that goes on, and then another
pub going_then : (r : Run) (u : Store) (next : Store → Run) → r.ending ≡ going u → then_run r next ≡ record { acts = r.acts ++ (next u).acts; ending = (next u).ending }
going_then r u next e = ap (λ (x : Ending). followed_by r.acts x next) e

-- an expression with a sum
with_is : (g : Names) (a : ExprTree) (sum : Sum) (s : Store) → value g (with_sum a sum) s ≡ binary (λ u v. in_range (changed sum u v)) (value g a s) (value g (operand sum) s)
with_is g a (plus e) s = refl
with_is g a (minus e) s = refl

same_change : (sum : Sum) (b m y : ℤ) → changed sum b m -ℤ b ≡ changed sum y m -ℤ y
same_change (plus e) b m y = omega (arith, ints)
same_change (minus e) b m y = omega (arith, ints)

-- a store that holds the same holds what was seen
pub holds_same : (P : Cell → Type 0) (s z : Store) → ((c : Cell) → P c → z c ≡ s c) → (xs : List Seen) → AllSeen P xs → Holds s xs → Holds z xs
holds_same P s z same [] h k = tt
holds_same P s z same (cell_seen c content ∷ xs) h k = (same c h.0 ∙ k.0, holds_same P s z same xs h.1 k.1)
holds_same P s z same (index_seen c v ∷ xs) h k = holds_same P s z same xs h.1 k

number_one : (m n : ℤ) → Number m ≡ Number n → m ≡ n
number_one m n e = cc

pub other_part : (x y : List ℕ) (k : ℤ) → is_same_text x y ≡ false → same_cell (part x k) (part y k) ≡ false
other_part x y k h = ap (λ (b : Bool). b && pointwise int_eq (k ∷ []) (k ∷ [])) h

module _ (ps : List Partials) (g : Names) (v : List ℕ) (k : ℤ) (told : Cell) (stands : StandsAt ps g v k told) where
  -- an expression in which none of these names stands sees none of their cells
  pub sees_others : (e : ExprTree) (s : Store) → sight.Lacks (λ c. is_apart ps c ≡ false) (is_either ps) (expr_names e) → AllSeen (λ c. is_apart ps c ≡ false) (value g e s).seen
  sees_others e s lacks =
      sight.value_seen (λ c. is_apart ps c ≡ false) (is_either ps) g (λ x h. stands.others x (or_parts (is_total ps x) (is_array ps x) h).0) (λ x js h. (or_parts (is_total ps x) (is_array ps x) h).1) e s lacks

  pub same_value : (e : ExprTree) (s z : Store) → sight.Lacks (λ c. is_apart ps c ≡ false) (is_either ps) (expr_names e) → ((c : Cell) → is_apart ps c ≡ false → z c ≡ s c) → value g e z ≡ value g e s
  same_value e s z lacks same = (value_told g e).comes s z (holds_same (λ c. is_apart ps c ≡ false) s z same (value g e s).seen (sees_others e s lacks) ((value_told g e).holds s))

  module _ (arrays : HaveArrays ps) (p : Partials) (i : IsIn p ps) (sum : Sum) (lacks : sight.Lacks (λ c. is_apart ps c ≡ false) (is_either ps) (expr_names (operand sum))) where
    -- the parts before a sum, where the scalar holds y
    pub record Before (o u : Store) (y : ℤ) : Type 0 where
      pub x : ℤ
      pub a : ℤ
      pub b : ℤ
      pub was : o (Scalar p.scalar) ≡ Number x
      pub high_is : u (part p.high k) ≡ Number a
      pub low_is : u (part p.low k) ≡ Number b
      pub parts : AreParts x y a b
      pub x_small : Is32 x
      pub y_small : Is32 y

    pub before : (o w s u : Store) (y : ℤ) → AreSmall ps o → Within ps k o w s u → s (Scalar p.scalar) ≡ Number y → Before o u y
    before o w s u y small within held = go (within.sums p i)
      where
        go : Adds (o (Scalar p.scalar)) (u (part p.high k)) (u (part p.low k)) (u (part p.flag k)) (s (Scalar p.scalar)) → Before o u y
        go (inl none) =
            let was : o (Scalar p.scalar) ≡ Number y = sym none.same ∙ held in
            record { x = y; a = pos 0; b = pos 0; was = was; high_is = none.high_is; low_is = none.low_is; parts = no_parts y; x_small = small p i y was; y_small = small p i y was }
        go (inr some) =
            let is : some.y ≡ y = number_one some.y y (sym some.is ∙ held) in
            record { x = some.x; a = some.a; b = some.b; was = some.was; high_is = some.high_is; low_is = some.low_is; parts = subst (λ (z : ℤ). AreParts some.x z some.a some.b) is some.parts; x_small = some.x_small; y_small = subst Is32 is some.y_small }

    -- the run of the three statements
    abbrev high_right : ExprTree
    high_right = Add (at p.high v) (Div (with_sum (at p.low v) sum) (Int 65536))

    abbrev low_right : ExprTree
    low_right = Call Mod (more_exprs (with_sum (at p.low v) sum) (more_exprs (Int 65536) no_exprs))

    abbrev pub three : Place → Place → Place → Store → Run
    three first second third u =
        then_run (run_assignment g first (at p.high v) high_right u) (λ x. then_run (run_assignment g second (at p.low v) low_right x) (λ y. then_run (run_assignment g third (at p.flag v) (Int 1) y) nothing_done))

    module _ (old : Place) (r : Run) (o w s t u : Store) (small : AreSmall ps o) (within : Within ps k o w s u) (came : CameOfSum ps g v k told stands p sum old r s t) where
      abbrev Q : Manner → Cell → Type 0
      Q m c = Origin ps k told came.touches m c

      pub tells : Q is_told told
      tells = inr (inl (refl, refl))

      pub of_part : (x : List ℕ) → is_array_of p x ≡ true → (m : Manner) → Q m (part x k)
      of_part x own m = inr (inr (p, i, x, own, refl, came.writes_it))

      abbrev z : ℤ
      z = changed sum came.y came.m

      pub start : Before o u came.y
      start = before o w s u came.y small within came.held

      abbrev n : ℤ
      n = changed sum start.b came.m

      pub new : AreNewParts start.x z start.a n
      new = split_sum start.x came.y z start.a start.b n start.x_small start.y_small (storable_32 z came.stored) start.parts (same_change sum start.b came.m came.y)

      abbrev high : ℤ
      high = start.a +ℤ int_div n (pos 65536)

      abbrev low : ℤ
      low = int_rem n (pos 65536)

      abbrev u1 : Store
      u1 = put (part p.high k) (Number high) u

      abbrev u2 : Store
      u2 = put (part p.low k) (Number low) u1

      abbrev pub behind_sum : Store
      behind_sum = put (part p.flag k) (Number (pos 1)) u2

      -- a part that holds a number
      pub good_part : (x : List ℕ) (own : is_array_of p x ≡ true) (m : ℤ) (e : Store) → e (part x k) ≡ Number m → Good Q (value g (at x v) e) m
      good_part x own m e holds =
          let is = element_comes ps g v k told stands p i x own e in
          record {
            result = ap (λ (y : Evaluated ℤ). y.result) is ∙ ap number_read holds;
            by = subst (AllSeenBy Q) (sym (ap (λ (y : Evaluated ℤ). y.seen) is)) (tells, (of_part x own reads, tt));
          }

      -- the operand, and the low part with it
      pub good_operand : (e : Store) → ((c : Cell) → is_apart ps c ≡ false → e c ≡ s c) → Good Q (value g (operand sum) e) came.m
      good_operand e same =
          let is = same_value (operand sum) s e lacks same in
          record {
            result = ap (λ (y : Evaluated ℤ). y.result) is ∙ came.comes;
            by = subst (AllSeenBy Q) (sym (ap (λ (y : Evaluated ℤ). y.seen) is)) (seen_map (IsTouched came.touches) Q (λ m c h. inl h) (value g (operand sum) s).seen came.sees);
          }

      pub good_sum : (e : Store) → ((c : Cell) → is_apart ps c ≡ false → e c ≡ s c) → e (part p.low k) ≡ Number start.b → Good Q (value g (with_sum (at p.low v) sum) e) n
      good_sum e same holds =
          subst (λ (y : Evaluated ℤ). Good Q y n) (sym (with_is g (at p.low v) sum e))
          (good_two Q (λ a b. in_range (changed sum a b)) (value g (at p.low v) e) (value g (operand sum) e) start.b came.m n (good_part p.low (low_array p) start.b e holds) (good_operand e same) (ap by_number new.sum))

      pub good_int : (m : ℕ) (e : Store) → Good Q (value g (Int m) e) (pos m)
      good_int m e = record { result = refl; by = tt }

      pub good_high : Good Q (value g high_right u) high
      good_high =
          good_two Q sum_of (value g (at p.high v) u) (value g (Div (with_sum (at p.low v) sum) (Int 65536)) u) start.a (int_div n (pos 65536)) high (good_part p.high (high_array p) start.a u start.high_is)
          (good_two Q quotient_of (value g (with_sum (at p.low v) sum) u) (value g (Int 65536) u) n (pos 65536) (int_div n (pos 65536)) (good_sum u within.same start.low_is) (good_int 65536 u) (ap by_number new.quotient)) (ap by_number new.high)

      -- cells outside are as they were, and so is the low part
      pub apart_part : (x : List ℕ) → is_array_of p x ≡ true → is_apart ps (part x k) ≡ true
      apart_part x own = array_apart ps p x i own

      pub outside : (x : List ℕ) → is_array_of p x ≡ true → (y : Content) (e : Store) (c : Cell) → is_apart ps c ≡ false → put (part x k) y e c ≡ e c
      outside x own y e c h = put_other (part x k) y e c (other_cell (part x k) c (λ q. both_ways (is_apart ps c) h (ap (is_apart ps) (sym q) ∙ apart_part x own)))

      pub same1 : (c : Cell) → is_apart ps c ≡ false → u1 c ≡ s c
      same1 c h = outside p.high (high_array p) (Number high) u c h ∙ within.same c h

      pub apart3 : AreThree p
      apart3 = arrays.three p i

      pub low1 : u1 (part p.low k) ≡ Number start.b
      low1 = put_other (part p.high k) (Number high) u (part p.low k) (other_part p.high p.low k apart3.high_low) ∙ start.low_is

      pub good_low : Good Q (value g low_right u1) low
      good_low =
          let sum_low = good_sum u1 same1 low1 in
          let e = value g (with_sum (at p.low v) sum) u1 in
          let is : value g low_right u1 ≡ record { seen = (e.seen ++ []) ++ []; result = by_number (remainder_of n (pos 65536)) } =
          ap (λ (y : Result ℤ ℕ). onward e.seen y (λ a. given (Ok (pos 65536)) >>> λ b. given (Ok []) >>> λ us. given (Ok (b ∷ us))
          >>> λ us. given (Ok (a ∷ us))) >>> λ us. given (of_intrinsic (intrinsic_result Mod us))) sum_low.result in
          record {
            result = ap (λ (y : Evaluated ℤ). y.result) is ∙ ap by_number new.low;
            by = subst (AllSeenBy Q) (sym (ap (λ (y : Evaluated ℤ). y.seen) is)) (by_append Q (e.seen ++ []) [] (by_append Q e.seen [] sum_low.by tt) tt);
          }

      module _ (first second third : Place) where
        pub run1 : RunOfPart ps g v k told stands p i p.high (high_array p) u Q tells (of_part p.high (high_array p)) (run_assignment g first (at p.high v) high_right u) high first
        run1 = part_runs ps g v k told stands p i p.high (high_array p) u Q tells (of_part p.high (high_array p)) high_right high first good_high.result good_high.by new.high_stored

        pub run2 : RunOfPart ps g v k told stands p i p.low (low_array p) u1 Q tells (of_part p.low (low_array p)) (run_assignment g second (at p.low v) low_right u1) low second
        run2 = part_runs ps g v k told stands p i p.low (low_array p) u1 Q tells (of_part p.low (low_array p)) low_right low second good_low.result good_low.by new.low_stored

        pub run3 : RunOfPart ps g v k told stands p i p.flag (flag_array p) u2 Q tells (of_part p.flag (flag_array p)) (run_assignment g third (at p.flag v) (Int 1) u2) (pos 1) third
        run3 = part_runs ps g v k told stands p i p.flag (flag_array p) u2 Q tells (of_part p.flag (flag_array p)) (Int 1) (pos 1) third refl tt refl

        pub three_go : three first second third u ≡ record { acts = act did first run1.touched ∷ (act did second run2.touched ∷ (act did third run3.touched ∷ [])); ending = going behind_sum }
        three_go =
            going_then (run_assignment g first (at p.high v) high_right u) u1 (λ x. then_run (run_assignment g second (at p.low v) low_right x) (λ y. then_run (run_assignment g third (at p.flag v) (Int 1) y) nothing_done)) run1.ending
            ∙ (λ j. record { acts = run1.acts j ++ (rest j).acts; ending = (rest j).ending })
          where
            last : then_run (run_assignment g third (at p.flag v) (Int 1) u2) nothing_done ≡ record { acts = act did third run3.touched ∷ []; ending = going behind_sum }
            last = going_then (run_assignment g third (at p.flag v) (Int 1) u2) behind_sum nothing_done run3.ending ∙ (λ j. record { acts = run3.acts j ++ []; ending = going behind_sum })

            rest : then_run (run_assignment g second (at p.low v) low_right u1) (λ y. then_run (run_assignment g third (at p.flag v) (Int 1) y) nothing_done) ≡ record { acts = act did second run2.touched ∷ (act did third run3.touched ∷ []); ending = going behind_sum }
            rest =
                going_then (run_assignment g second (at p.low v) low_right u1) u2 (λ y. then_run (run_assignment g third (at p.flag v) (Int 1) y) nothing_done) run2.ending
                ∙ (λ j. record { acts = run2.acts j ++ (last j).acts; ending = (last j).ending })

        -- each of the three acts comes from that of the sum
        pub three_come : (b : Act) → first.turns ≡ old.turns → second.turns ≡ old.turns → third.turns ≡ old.turns → IsIn b (three first second third u).acts → (a : Act) × IsIn a r.acts × ComesFrom ps k told a b
        three_come b e1 e2 e3 j =
            let from : IsIn (act did old came.touches) r.acts = subst (IsIn (act did old came.touches)) (sym came.acts) (inl refl) in
            let there = subst (IsIn b) (ap (λ (x : Run). x.acts) three_go) j in (
              act did old came.touches,
              from,
              elim there [
                | inl q ↦ made first run1.touched e1 run1.by q
                | inr l ↦ elim l [
                  | inl q ↦ made second run2.touched e2 run2.by q
                  | inr m ↦ elim m [ inl q ↦ made third run3.touched e3 run3.by q | inr f ↦ absurd f ]
                ]
              ],
            )
          where
            made : (place : Place) (ts : List Touch) → place.turns ≡ old.turns → AllTouchBy Q ts → b ≡ act did place ts → ComesFrom ps k told (act did old came.touches) b
            made place ts e by q = subst (ComesFrom ps k told (act did old came.touches)) (sym q) (record { turns = e; touches = by })

      -- and the parts tell the scalar's new value
      kept : (x : List ℕ) → is_array_of p x ≡ true → (y : Content) (e : Store) (c : Cell) → is_own ps k c ≡ false → put (part x k) y e c ≡ e c
      kept x own y e c h = put_other (part x k) y e c (other_cell (part x k) c (λ q. both_ways (is_own ps k c) h (ap (is_own ps k) (sym q) ∙ mine)))
        where
          mine : is_own ps k (part x k) ≡ true
          mine = ap (λ (b : Bool). b && pointwise int_eq (k ∷ []) (k ∷ [])) (array_apart ps p x i own) ∙ (and_parts (is_same_text x x) (pointwise int_eq (k ∷ []) (k ∷ [])) (cell_itself (part x k))).1

      other_array : (a : Partials) (x y : List ℕ) → is_array_of a x ≡ false → is_array_of a y ≡ true → is_same_text x y ≡ false
      other_array a x y h own = unlike (is_same_text x y) refl
        where
          unlike : (b : Bool) → is_same_text x y ≡ b → is_same_text x y ≡ false
          unlike true e = absurd (both_ways (is_array_of a x) h (ap (is_array_of a) (same_is x y e) ∙ own))
          unlike false e = e

      three_others : (a : Partials) (x : List ℕ) → AreDistinct p a → is_array_of a x ≡ true → behind_sum (part x k) ≡ u (part x k)
      three_others a x apart own =
          put_other (part p.flag k) (Number (pos 1)) u2 (part x k) (other_part p.flag x k (other_array a p.flag x apart.flag own))
          ∙ put_other (part p.low k) (Number low) u1 (part x k) (other_part p.low x k (other_array a p.low x apart.low own))
          ∙ put_other (part p.high k) (Number high) u (part x k) (other_part p.high x k (other_array a p.high x apart.high own))

      pub within_sum : Within ps k o w (put (Scalar p.scalar) (Number z) s) behind_sum
      within_sum = record {
        same = λ c h.
            outside p.flag (flag_array p) (Number (pos 1)) u2 c h ∙ outside p.low (low_array p) (Number low) u1 c h ∙ same1 c h
            ∙ sym (put_other (Scalar p.scalar) (Number z) s c (other_cell (Scalar p.scalar) c (λ q. both_ways (is_apart ps c) h (ap (is_apart ps) (sym q) ∙ total_apart ps p i))));
        others = λ c h f. kept p.flag (flag_array p) (Number (pos 1)) u2 c f ∙ kept p.low (low_array p) (Number low) u1 c f ∙ kept p.high (high_array p) (Number high) u c f ∙ within.others c h f;
        sums = sums;
      }
        where
          -- of the scalar itself
          own : Adds (o (Scalar p.scalar)) (behind_sum (part p.high k)) (behind_sum (part p.low k)) (behind_sum (part p.flag k)) (put (Scalar p.scalar) (Number z) s (Scalar p.scalar))
          own = inr (record {
            x = start.x;
            y = z;
            a = high;
            b = low;
            was = start.was;
            is = put_same (Scalar p.scalar) (Number z) s (Scalar p.scalar) (cell_itself (Scalar p.scalar));
            high_is = put_other (part p.flag k) (Number (pos 1)) u2 (part p.high k) (other_part p.flag p.high k (turned p.high p.flag apart3.high_flag))
                ∙ put_other (part p.low k) (Number low) u1 (part p.high k) (other_part p.low p.high k (turned p.high p.low apart3.high_low))
                ∙ put_same (part p.high k) (Number high) u (part p.high k) (cell_itself (part p.high k));
            low_is = put_other (part p.flag k) (Number (pos 1)) u2 (part p.low k) (other_part p.flag p.low k (turned p.low p.flag apart3.low_flag)) ∙ put_same (part p.low k) (Number low) u1 (part p.low k) (cell_itself (part p.low k));
            flag_is = put_same (part p.flag k) (Number (pos 1)) u2 (part p.flag k) (cell_itself (part p.flag k));
            parts = new.parts;
            x_small = start.x_small;
            y_small = storable_32 z came.stored;
          })
            where
              turned : (x y : List ℕ) → is_same_text x y ≡ false → is_same_text y x ≡ false
              turned x y h = by (is_same_text y x) refl
                where
                  by : (b : Bool) → is_same_text y x ≡ b → is_same_text y x ≡ false
                  by true e = absurd (both_ways (is_same_text x y) h (ap (is_same_text x) (same_is y x e) ∙ text_itself x))
                  by false e = e

          sums : (a : Partials) → IsIn a ps → Adds (o (Scalar a.scalar)) (behind_sum (part a.high k)) (behind_sum (part a.low k)) (behind_sum (part a.flag k)) (put (Scalar p.scalar) (Number z) s (Scalar a.scalar))
          sums a j = elim (arrays.distinct p a i j) [
            | inl q ↦ subst (λ (b : Partials). Adds (o (Scalar b.scalar)) (behind_sum (part b.high k)) (behind_sum (part b.low k)) (behind_sum (part b.flag k)) (put (Scalar p.scalar) (Number z) s (Scalar b.scalar))) (sym q) own
            | inr apart ↦ adds_same (o (Scalar a.scalar)) (u (part a.high k)) (u (part a.low k)) (u (part a.flag k)) (s (Scalar a.scalar)) (behind_sum (part a.high k)) (behind_sum (part a.low k)) (behind_sum (part a.flag k)) (put (Scalar p.scalar) (Number z) s (Scalar a.scalar))
                (three_others a a.high apart (high_array a)) (three_others a a.low apart (low_array a)) (three_others a a.flag apart (flag_array a)) (put_other (Scalar p.scalar) (Number z) s (Scalar a.scalar) apart.scalar) (within.sums a j)
          ]
