-- A DO whose bounds are exchanged and whose increment, 1 or -1, is negated: it has the same iterations, from the last to the first.
use Rattle.std.proofs.Common.{◌≡◌, ◌⊎◌, ℕ, suc, ◌+◌, ◌-◌, ◌≤◌, ℤ, pos, negsuc, neg_ℤ, ◌+ℤ◌, ◌*ℤ◌, List, [], ◌∷◌, ◌++◌, Bool, true, false, ◌||◌, Option, Some, Ok, refl, sym, ap, ◌∙◌, subst, inl, inr, arith, int_eq, unwrap_or}
use Rattle.std.proofs.lemmas.Bool.Decides.{Decides-int_eq}
use Rattle.ped_symbolic.specs.Arithmetic.{literal}
use Rattle.ped_tree.specs.Constants.ConstantExpressions.{constant_value}
use Rattle.ped_tree.specs.Tree.{ExprTree, Head, StmtTrees}
use Rattle.ped_rules.specs.ped_store.specs.Acts.{reads, Touch}
use Rattle.ped_rules.specs.ped_store.specs.Cells.{Cell}
use Rattle.ped_rules.specs.ped_store.specs.Stores.{Content, Store}
use Rattle.ped_rules.specs.ped_laws.specs.Acts.Orders.{IsIn}
use Rattle.ped_rules.specs.ped_laws.proofs.ActLaws.Lists.{in_left, in_right, in_parts}
use Rattle.ped_rules.specs.ped_laws.specs.Runs.Seeing.{ComesTo}
use Rattle.ped_rules.specs.ped_laws.proofs.RunLaws.Sight.{holds_append, value_told}
use Rattle.ped_rules.specs.ped_eval.specs.Evaluation.{Seen, cell_seen, index_seen, Evaluated, numbered}
use Rattle.ped_rules.specs.ped_eval.specs.Values.{value}
use Rattle.ped_rules.specs.ped_eval.specs.Scopes.{Setting, Scope, Names, names_in}
use Rattle.ped_rules.specs.ped_eval.specs.Loops.{Limits, limits, increment, iteration_count, Entered}
use Rattle.ped_rules.specs.ped_weaves.specs.Puttings.{ReadAmong}
use Rattle.ped_rules.specs.ped_bodies.specs.Trips.{HasLimits, bounds_seen, entered_from}
use Rattle.ped_rules.specs.ped_bodies.proofs.BodyLaws.LimitParts.{limits_come, limits_parted}
use Rattle.ped_rules.specs.Rules.{is_unit}
use Rattle.ped_rules.specs.ped_loop_runs.specs.OneForOne.{HasSameTrips}
use Rattle.ped_loops.specs.Reversing.{turned_head}
use Rattle.ped_rules.proofs.HeadLaws.TurnedCounts.{counts_down, values_down, values_up}

-- 1 and -1 alone
pub unit_is : (m : ℤ) → is_unit m ≡ true → (m ≡ pos 1) ⊎ (m ≡ negsuc 0)
unit_is m h = go (int_eq m (pos 1)) refl h
  where
    go : (b : Bool) → int_eq m (pos 1) ≡ b → b || int_eq m (neg_ℤ (pos 1)) ≡ true → (m ≡ pos 1) ⊎ (m ≡ negsuc 0)
    go true e k = inl ((Decides-int_eq m (pos 1)).0 e)
    go false e k = inr ((Decides-int_eq m (negsuc 0)).0 k)

-- what is read in the other order
cell_among : (n : ℕ) (seen : List Seen) (y : Touch) → IsIn y (numbered n seen) → y.manner ≡ reads → IsIn (cell_seen y.cell y.content) seen
cell_among n [] y i m = absurd i
cell_among n (cell_seen c content ∷ more) y (inl e) m = inl (λ i. cell_seen (e i).cell (e i).content)
cell_among n (cell_seen c content ∷ more) y (inr i) m = inr (cell_among (suc n) more y i m)
cell_among n (index_seen c v ∷ more) y (inl e) m = let told = sym (ap (λ (t : Touch). t.manner) e) ∙ m in absurd cc
cell_among n (index_seen c v ∷ more) y (inr i) m = inr (cell_among n more y i m)

read_among : (n : ℕ) (seen : List Seen) (c : Cell) (v : Content) → IsIn (cell_seen c v) seen → (x : Touch) × IsIn x (numbered n seen) × (x.manner ≡ reads) × (x.cell ≡ c) × (x.content ≡ v)
read_among n [] c v i = absurd i
read_among n (cell_seen d w ∷ more) c v (inl e) = (
  record { cell = d; manner = reads; content = w; reference = n },
  inl refl,
  refl,
  (let same : d ≡ c = cc in same),
  (let same : w ≡ v = cc in same),
)
read_among n (cell_seen d w ∷ more) c v (inr i) = let r = read_among (suc n) more c v i in (r.0, inr r.1, r.2, r.3, r.4)
read_among n (index_seen d w ∷ more) c v (inl e) = absurd cc
read_among n (index_seen d w ∷ more) c v (inr i) = let r = read_among n more c v i in (r.0, inr r.1, r.2, r.3, r.4)

turned_reads : (xs ys : List Seen) → ReadAmong (numbered 1 (xs ++ ys)) (numbered 1 (ys ++ xs))
turned_reads xs ys y i m = read_among 1 (xs ++ ys) y.cell y.content (elim (in_parts (cell_seen y.cell y.content) ys xs (cell_among 1 (ys ++ xs) y i m)) [
  | inl k ↦ in_right (cell_seen y.cell y.content) xs ys k
  | inr k ↦ in_left (cell_seen y.cell y.content) xs ys k
])

module _ (p : Setting) (d : Head) (body : StmtTrees) (l : ℕ) where
  abbrev h : Head
  h = turned_head p.constants d

  -- the increment is negated
  turned_increment : (m : ℤ) → constant_value p.constants d.step ≡ Some m → (m ≡ pos 1) ⊎ (m ≡ negsuc 0) → increment p.constants h ≡ neg_ℤ m
  turned_increment m e unit = ap (λ (n : ℤ). unwrap_or (constant_value p.constants (literal (neg_ℤ n))) (pos 1)) (ap (λ (o : Option ℤ). unwrap_or o (pos 1)) e) ∙ by unit
    where
      by : (m ≡ pos 1) ⊎ (m ≡ negsuc 0) → unwrap_or (constant_value p.constants (literal (neg_ℤ m))) (pos 1) ≡ neg_ℤ m
      by (inl is) = ap (λ (n : ℤ). unwrap_or (constant_value p.constants (literal (neg_ℤ n))) (pos 1)) is ∙ refl ∙ ap neg_ℤ (sym is)
      by (inr is) = ap (λ (n : ℤ). unwrap_or (constant_value p.constants (literal (neg_ℤ n))) (pos 1)) is ∙ refl ∙ ap neg_ℤ (sym is)

  module _ (m : ℤ) (step : constant_value p.constants d.step ≡ Some m) (unit : (m ≡ pos 1) ⊎ (m ≡ negsuc 0)) (scope : Scope) (s : Store) (old : Limits) (come : (limits (names_in p scope) d s).result ≡ Ok old) where
    abbrev g : Names
    g = names_in p scope

    abbrev new : Limits
    new = record { first = old.last; last = old.first }

    abbrev e : Entered
    e = entered_from p d body l scope s old

    abbrev z : Entered
    z = entered_from p h body l scope s new

    has : HasLimits g d s old
    has = limits_parted g d s old come

    abbrev first_seen : List Seen
    first_seen = (value g d.first s).seen

    abbrev last_seen : List Seen
    last_seen = (value g d.last s).seen

    comes : (x : ExprTree) (v : ℤ) → (value g x s).result ≡ Ok v → ComesTo (value g x) (value g x s).seen (Ok v)
    comes x v is w holds = (value_told g x).comes s w holds ∙ (λ i. record { seen = (value g x s).seen; result = is i })

    -- the bounds come in the same store, and read the same in the other order
    turned_limits : limits g h s ≡ record { seen = last_seen ++ first_seen; result = Ok new }
    turned_limits =
        limits_come g h last_seen first_seen old.last old.first (comes d.last old.last has.last) has.last_bound (comes d.first old.first has.first) has.first_bound s
        (holds_append s last_seen first_seen ((value_told g d.last).holds s) ((value_told g d.first).holds s))

    old_increment : increment p.constants d ≡ m
    old_increment = ap (λ (o : Option ℤ). unwrap_or o (pos 1)) step

    new_increment : increment p.constants h ≡ neg_ℤ m
    new_increment = turned_increment m step unit

    old_count : e.count ≡ iteration_count old.first old.last m
    old_count = ap (iteration_count old.first old.last) old_increment

    new_count : z.count ≡ iteration_count old.last old.first (neg_ℤ m)
    new_count = ap (iteration_count old.last old.first) new_increment

    -- as many iterations
    counts : (m ≡ pos 1) ⊎ (m ≡ negsuc 0) → iteration_count old.last old.first (neg_ℤ m) ≡ iteration_count old.first old.last m
    counts (inl is) = ap (λ (n : ℤ). iteration_count old.last old.first (neg_ℤ n)) is ∙ counts_down old.first old.last ∙ ap (iteration_count old.first old.last) (sym is)
    counts (inr is) = ap (λ (n : ℤ). iteration_count old.last old.first (neg_ℤ n)) is ∙ sym (counts_down old.last old.first) ∙ ap (iteration_count old.first old.last) (sym is)

    same_count : z.count ≡ e.count
    same_count = new_count ∙ counts unit ∙ sym old_count

    -- and the values from the last to the first
    values : (k : ℕ) → 1 ≤ k → k ≤ e.count → (m ≡ pos 1) ⊎ (m ≡ negsuc 0) → old.last +ℤ pos (k - 1) *ℤ neg_ℤ m ≡ old.first +ℤ pos (e.count + 1 - k - 1) *ℤ m
    values k from to (inl is) =
        ap (λ (n : ℤ). old.last +ℤ pos (k - 1) *ℤ neg_ℤ n) is ∙ values_down old.first old.last e.count k (old_count ∙ ap (iteration_count old.first old.last) is) from to
        ∙ ap (λ (n : ℤ). old.first +ℤ pos (e.count + 1 - k - 1) *ℤ n) (sym is)
    values k from to (inr is) =
        ap (λ (n : ℤ). old.last +ℤ pos (k - 1) *ℤ neg_ℤ n) is ∙ values_up old.first old.last e.count k (old_count ∙ ap (iteration_count old.first old.last) is) from to
        ∙ ap (λ (n : ℤ). old.first +ℤ pos (e.count + 1 - k - 1) *ℤ n) (sym is)

    pub turned_trips : HasSameTrips p d h body l true scope s old
    turned_trips = record {
      bounds = new;
      come = ap (λ (x : Evaluated Limits). x.result) turned_limits;
      count = same_count;
      values = λ k from to.
          ap (λ (n : ℤ). old.last +ℤ pos (k - 1) *ℤ n) new_increment ∙ values k from (let same = same_count in omega (arith, to, same)) unit
          ∙ ap (λ (n : ℤ). old.first +ℤ pos (e.count + 1 - k - 1) *ℤ n) (sym old_increment);
      among = subst (λ (seen : List Seen). ReadAmong (numbered 1 (bounds_seen p d scope s)) (numbered 1 seen)) (sym (ap (λ (x : Evaluated Limits). x.seen) turned_limits))
          (subst (λ (seen : List Seen). ReadAmong (numbered 1 seen) (numbered 1 (last_seen ++ first_seen))) (sym has.seen) (turned_reads first_seen last_seen));
    }
