-- A store that holds at least what another holds, in renamed cells.
use Rattle.std.proofs.Common.{◌≡◌, ℕ, ℤ, [], ◌∷◌, Bool, true, false, refl, sym, ap, subst, ◌⊎◌, inl, inr, if◌then◌else◌}
use Rattle.ped_steps.specs.ped_store.specs.Cells.{Cell, same_cell}
use Rattle.ped_steps.specs.ped_store.specs.Stores.{Content, Undefined, Number, Store, put, number_read}
use Rattle.ped_steps.specs.ped_eval.specs.Evaluation.{cell_seen, read_cell}
use Rattle.ped_steps.specs.ped_laws.proofs.ActLaws.SameCells.{cell_is}
use Rattle.ped_call_runs.specs.UnitRuns.{is_own_cell, without_own}
use Rattle.ped_call_runs.proofs.FollowingValues.{itself, FollowsBy, Follows, same_follows}

-- what is known of a cell in two stores: both hold the same; the second holds the same where the first holds something; the first holds this number; nothing
pub data Bond : Type 0 where
  tight : Bond
  loose : Bond
  held : ℤ → Bond
  free : Bond

-- a cell of a variable that a CALL has of its own
abbrev pub IsOfCall : Cell → Type 0
IsOfCall c = (n : ℕ) × (is_own_cell n c ≡ true)

-- what the two stores hold agrees by the bond of this cell: what may be undefined in the first alone is a CALL's own
abbrev pub Agrees : Cell → Bond → Content → Content → Type 0
Agrees c tight a b = b ≡ a
Agrees c loose a b = (IsOfCall c × (a ≡ Undefined)) ⊎ (b ≡ a)
Agrees c (held n) a b = a ≡ Number n
Agrees c free a b = Unit {0}

-- the second store holds at least what the first holds, in renamed cells
abbrev pub IsBelow : (Cell → Bond) → (Cell → Cell) → Store → Store → Type 0
IsBelow bond name s w = (c : Cell) → Agrees c (bond c) (s c) (w (name c))

-- a cell that may be read and written on both sides
abbrev pub is_bound : Bond → Bool
is_bound tight = true
is_bound loose = true
is_bound (held n) = false
is_bound free = false

-- a cell that may be undefined in the first store alone
abbrev pub is_slack : Bond → Bool
is_slack tight = false
is_slack loose = true
is_slack (held n) = false
is_slack free = true

same_agrees : (c : Cell) (b : Bond) (v : Content) → is_bound b ≡ true → Agrees c b v v
same_agrees c tight v h = refl
same_agrees c loose v h = inr refl
same_agrees c (held n) v h = absurd cc
same_agrees c free v h = absurd cc

undefined_agrees : (c : Cell) (b : Bond) (v : Content) → IsOfCall c → is_slack b ≡ true → Agrees c b Undefined v
undefined_agrees c tight v own h = absurd cc
undefined_agrees c loose v own h = inl (own, refl)
undefined_agrees c (held n) v own h = absurd cc
undefined_agrees c free v own h = tt

-- what is read in the first store is read in the second, but for an undefined variable of a CALL's own
pub read_follows : (c : Cell) (b : Bond) (a d : Content) → is_bound b ≡ true → Agrees c b a d → FollowsBy itself (cell_seen c a ∷ []) (number_read a) (number_read d)
read_follows c tight a d h e = same_follows (cell_seen c a ∷ []) (number_read a) (number_read d) (ap number_read e)
read_follows c loose a d h (inl e) =
    subst (λ (z : Content). FollowsBy itself (cell_seen c z ∷ []) (number_read z) (number_read d)) (sym e.1) (inl (record { fault = refl; front = []; cell = c; call = e.0.0; own = e.0.1; last = refl }))
read_follows c loose a d h (inr e) = same_follows (cell_seen c a ∷ []) (number_read a) (number_read d) (ap number_read e)
read_follows c (held m) a d h e = absurd cc
read_follows c free a d h e = absurd cc

module _ (bond : Cell → Bond) (name : Cell → Cell) (same_test : (c d : Cell) → same_cell (name c) (name d) ≡ same_cell c d) where
  -- the same is put into a cell and into the renamed cell
  pub put_below : (c : Cell) (v : Content) (s w : Store) → is_bound (bond c) ≡ true → IsBelow bond name s w → IsBelow bond name (put c v s) (put (name c) v w)
  put_below c v s w is below d = subst (λ (b : Bool). Agrees d (bond d) (if same_cell c d then v else s d) (if b then v else w (name d))) (sym (same_test c d)) (go (same_cell c d) refl)
    where
      go : (b : Bool) → same_cell c d ≡ b → Agrees d (bond d) (if b then v else s d) (if b then v else w (name d))
      go true e = same_agrees d (bond d) v (subst (λ (z : Cell). is_bound (bond z) ≡ true) (cell_is c d e) is)
      go false e = below d

  -- the cells of a CALL become undefined
  pub without_below : (n : ℕ) (s w : Store) → ((c : Cell) → is_own_cell n c ≡ true → is_slack (bond c) ≡ true) → IsBelow bond name s w → IsBelow bond name (without_own n s) w
  without_below n s w slack below d = go (is_own_cell n d) refl
    where
      go : (b : Bool) → is_own_cell n d ≡ b → Agrees d (bond d) (if b then Undefined else s d) (w (name d))
      go true e = undefined_agrees d (bond d) (w (name d)) (n, e) (slack d e)
      go false e = below d

  -- a cell that is read
  pub cell_follows : (c : Cell) (s w : Store) → is_bound (bond c) ≡ true → IsBelow bond name s w → Follows itself (read_cell s c) (read_cell w (name c))
  cell_follows c s w is below = read_follows c (bond c) (s c) (w (name c)) is (below c)
