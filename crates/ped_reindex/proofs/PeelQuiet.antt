-- Lists of acts that are woven of the iterations of a DO: what its entry and its ends do, and rows of them.
use Rattle.ped_rules.specs.ped_bodies.proofs.BodyLaws.TripLists.{end_in_order}
use Rattle.ped_rules.specs.ped_bodies.specs.Trips.{loop_entry, trip_end}
use Rattle.ped_rules.specs.ped_laws.proofs.ActLaws.Lists.{in_parts}
use Rattle.ped_rules.specs.ped_laws.proofs.RunLaws.Touches.{Each, each_more, each_none}
use Rattle.ped_rules.specs.ped_laws.specs.Acts.Conflicts.{IsWriteWithin, WriteWithin}
use Rattle.ped_rules.specs.ped_laws.specs.Acts.Fitting.{touches_of}
use Rattle.ped_rules.specs.ped_laws.specs.Acts.Orders.{IsIn}
use Rattle.ped_rules.specs.ped_laws.specs.Runs.Replaying.{act}
use Rattle.ped_rules.specs.ped_eval.specs.Evaluation.{Seen, numbered}
use Rattle.ped_rules.specs.ped_eval.specs.Loops.{Entered, exit_touches, exit_when_none, left_in_variable, undefined_all, undefined_by}
use Rattle.ped_rules.specs.ped_eval.specs.Scopes.{Scope, cell_of}
use Rattle.ped_rules.specs.ped_eval.specs.Statements.{write_touch}
use Rattle.ped_rules.specs.ped_store.specs.Acts.{Act, Manner, Place, Touch, ended_turn, is_told, reads, writes}
use Rattle.ped_rules.specs.ped_store.specs.Cells.{Cell}
use Rattle.ped_rules.specs.ped_weaves.specs.Weaves.{block, control}
use Rattle.std.proofs.Common.{Bool, List, [], ap, arith, false, if◌then◌else◌, inl, inr, map, refl, subst, suc, sym, true, zero, ℕ, ◌++◌, ◌+◌, ◌-◌, ◌<◌, ◌==◌, ◌∙◌, ◌∷◌, ◌≡◌, ◌≤◌}
use Rattle.std.specs.List.{flat_map, range_with_len}

-- rows that are the same in a range
pub rows_same : {X : Type 0} (f g : ℕ → List X) (a n : ℕ) → ((k : ℕ) → a ≤ k → k < a + n → f k ≡ g k) → flat_map f (range_with_len a n) ≡ flat_map g (range_with_len a n)
rows_same f g a zero h = refl
rows_same f g a (suc n) h = λ i. h a (omega arith) (omega arith) i ++ rows_same f g (a + 1) n (λ k from to. h k (omega (arith, from)) (omega (arith, to))) i

pub shifted : {X : Type 0} (f : ℕ → X) (a n : ℕ) → map (λ j. f (j + 1)) (range_with_len a n) ≡ map f (range_with_len (a + 1) n)
shifted f a zero = refl
shifted f a (suc n) = ap (λ xs. f (a + 1) ∷ xs) (shifted f (a + 1) n)

pub one_longer : {X : Type 0} (f : ℕ → X) (a n : ℕ) → map f (range_with_len a n) ++ f (a + n) ∷ [] ≡ map f (range_with_len a (suc n))
one_longer f a zero = let same : a + 0 ≡ a = omega arith in ap (λ m. f m ∷ []) same
one_longer f a (suc n) = let same : a + suc n ≡ a + 1 + n = omega arith in ap (λ xs. f a ∷ xs) (ap (λ m. map f (range_with_len (a + 1) n) ++ f m ∷ []) same ∙ one_longer f (a + 1) n)

-- touches that write idle cells, by no reference
module _ (idle : Cell → Bool) where
  abbrev IsQuiet : Touch → Type 0
  IsQuiet v = (v.manner ≡ writes) × (idle v.cell ≡ true) × (v.reference ≡ 0)

  abbrev pub AreQuiet : List Touch → Type 0
  AreQuiet ts = Each (λ (v : Touch). (v.manner ≡ writes) × (idle v.cell ≡ true) × (v.reference ≡ 0)) ts

  one_within : (m : Manner) (c : Cell) → m ≡ writes → idle c ≡ true → IsWriteWithin idle m c
  one_within writes c e h = h
  one_within reads c e h = tt
  one_within is_told c e h = tt

  pub quiet_within : (ts : List Touch) → AreQuiet ts → WriteWithin idle ts
  quiet_within [] h = tt
  quiet_within (v ∷ ts) h = (let one = h v (inl refl) in one_within v.manner v.cell one.0 one.1, quiet_within ts (λ w i. h w (inr i)))

  -- the entry and the ends of a DO without copies
  module _ (y : Entered) (scope : Scope) (serial : y.head.parallel ≡ false) (private : y.head.private ≡ []) (inner : y.inner ≡ []) (own : idle (cell_of scope y.head.variable) ≡ true) where
    pub exit_quiet : AreQuiet (exit_touches y scope)
    exit_quiet =
        each_more IsQuiet (write_touch (cell_of scope y.head.variable) (left_in_variable y) 0) (undefined_by scope y.behind_bounds y.head.private ++ undefined_all scope y.inner) (refl, own, refl)
        (subst (λ (xs : List (List ℕ)). AreQuiet (undefined_by scope y.behind_bounds xs ++ undefined_all scope y.inner)) (sym private)
        (subst (λ (xs : List (List ℕ)). AreQuiet (undefined_all scope xs)) (sym inner) (each_none IsQuiet)))

    none_quiet : (n : ℕ) → AreQuiet (exit_when_none n y scope)
    none_quiet n = go (n == 0)
      where
        go : (b : Bool) → AreQuiet (if b then exit_touches y scope else [])
        go true = exit_quiet
        go false = each_none IsQuiet

    pub entry_quiet : (seen : List Seen) (at : Place) → seen ≡ [] → AreQuiet (loop_entry seen y scope at).touches
    entry_quiet seen at none = subst (λ (xs : List Seen). AreQuiet (numbered 1 xs ++ exit_when_none y.count y scope)) (sym none) (none_quiet y.count)

    pub end_quiet : (at : Place) (j : ℕ) (a : Act) → IsIn a (trip_end y scope at j) → AreQuiet a.touches
    end_quiet at j a i = by (subst (IsIn a) (end_in_order y scope at j (y.count - j) serial refl) i)
      where
        by : IsIn a (act (ended_turn (y.count - j)) at (exit_when_none (y.count - j) y scope) ∷ []) → AreQuiet a.touches
        by (inl e) = subst (λ (b : Act). AreQuiet b.touches) (sym e) (none_quiet (y.count - j))
        by (inr k) = absurd k

-- quiet acts together
pub quiet_touches : (idle : Cell → Bool) (acts : List Act) → ((a : Act) → IsIn a acts → AreQuiet idle a.touches) → AreQuiet idle (touches_of acts)
quiet_touches idle [] h v i = absurd i
quiet_touches idle (a ∷ acts) h v i = elim (in_parts v a.touches (touches_of acts) i) [ inl k ↦ h a (inl refl) v k | inr k ↦ quiet_touches idle acts (λ b j. h b (inr j)) v k ]

-- the knots of a list
pub control_of_row : (c a : List Act) (i j : ℕ) → IsIn (control c) (block i j ∷ control a ∷ []) → c ≡ a
control_of_row c a i j (inl e) = absurd cc
control_of_row c a i j (inr (inl e)) = let same : c ≡ a = cc in same
control_of_row c a i j (inr (inr k)) = absurd k

pub block_of_row : (a : List Act) (i j m n : ℕ) → IsIn (block m n) (block i j ∷ control a ∷ []) → (m ≡ i) × (n ≡ j)
block_of_row a i j m n (inl e) = let one : m ≡ i = cc in let other : n ≡ j = cc in (one, other)
block_of_row a i j m n (inr (inl e)) = absurd cc
block_of_row a i j m n (inr (inr k)) = absurd k

pub same_controls : (c a : List Act) → control c ≡ control a → c ≡ a
same_controls c a e = cc

pub no_block : (c : List Act) (i j : ℕ) → control c ≡ block i j → ⊥
no_block c i j e = absurd cc

pub no_control : (c : List Act) (i j : ℕ) → block i j ≡ control c → ⊥
no_control c i j e = absurd cc

-- which trip of the DO that is left an iteration is
abbrev pub new_trip : (last : Bool) → ℕ → ℕ
new_trip false i = i - 1
new_trip true i = i

-- the acts of an iteration in the new statements
abbrev pub either_acts : List Act → (ℕ → List Act) → (last is : Bool) → ℕ → List Act
either_acts one more last true i = one
either_acts one more last false i = more (new_trip last i)

-- the iteration before the DO, or behind it
abbrev pub put_together : {X : Type 0} → Bool → List X → List X → List X
put_together false one more = one ++ more
put_together true one more = more ++ one
