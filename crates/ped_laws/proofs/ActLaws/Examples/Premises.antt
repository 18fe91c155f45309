-- What the laws ask for is needed: lists that fit a store, and don't once they are changed where a premise fails.
use Rattle.std.proofs.Common.{◌≡◌, ℕ, pos, [], ◌∷◌, Bool, true, false, refl}
use Rattle.std.specs.Prelude.{if◌then◌else◌}
use Rattle.ped_eval.specs.ped_store.specs.Cells.{Cell, same_cell}
use Rattle.ped_eval.specs.ped_store.specs.Stores.{Undefined, Number, Store}
use Rattle.ped_eval.specs.ped_store.specs.Acts.{did, Act}
use Rattle.ped_laws.specs.Acts.Fitting.{Fits}
use Rattle.ped_laws.specs.Acts.Sets.{needs, wants}
use Rattle.ped_laws.specs.Acts.Conflicts.{acts_conflict, acts_conflict_outside, without, ReadNone}
use Rattle.ped_laws.specs.Acts.Renaming.{Renamed, in_place_of}
use Rattle.ped_laws.proofs.ActLaws.Examples.Lists.{i, t, copy, a, read, write, turn, act}
use Rattle.ped_laws.proofs.ActLaws.Examples.Orders.{sets_a, sets_b}

-- stores in which nothing is defined, and in which one cell holds a number
abbrev empty : Store
empty c = Undefined

abbrev holding : Cell → ℕ → Store
holding x v c = if same_cell x c then Number (pos v) else Undefined

not_defined : (v : ℕ) → Undefined ≡ Number (pos v) → ⊥
not_defined v e = cc

-- A(1)=1 and B(1)=A(1) conflict: in the other order the second finds nothing
in_order : Fits (sets_a 1 ∷ sets_b 1 ∷ []) empty
in_order = ((tt, (tt, (tt, tt))), ((tt, (refl, (tt, (tt, tt)))), tt))

not_in_order : Fits (sets_b 1 ∷ sets_a 1 ∷ []) empty → ⊥
not_in_order f = not_defined 1 f.0.1.0

they_conflict : acts_conflict (sets_a 1) (sets_b 1) ≡ true
they_conflict = refl

-- a conflict on a cell that the acts read doesn't count for nothing: they may not change places though they conflict on no other
but_a : acts_conflict_outside (same_cell (a 1)) (sets_a 1) (sets_b 1) ≡ false
but_a = refl

-- and the write of a cell that is read may not go
not_stripped : Fits (without (same_cell (a 1)) (sets_a 1 ∷ sets_b 1 ∷ [])) empty → ⊥
not_stripped f = not_defined 1 f.1.0.1.0

is_read : ReadNone (same_cell (a 1)) (sets_a 1 ∷ sets_b 1 ∷ []) → ⊥
is_read r = let e : true ≡ false = r.1.0.1.0 in absurd cc

-- T=T+1 reads T before it writes it: T may not be private
abbrev adds_to : Cell → Act
adds_to x = act did 2 (turn 1 1 ∷ []) (read x 5 1 ∷ write x 6 2 ∷ [])

exposed : needs (adds_to t ∷ []) t ≡ true
exposed = refl

adds : Fits (adds_to t ∷ []) (holding t 5)
adds = ((refl, (tt, tt)), tt)

renamed : Renamed (in_place_of t (copy 1)) (adds_to t ∷ []) (adds_to (copy 1) ∷ [])
renamed = (refl, refl, refl, (refl, refl, refl, tt))

not_private : Fits (adds_to (copy 1) ∷ []) (holding t 5) → ⊥
not_private f = not_defined 5 f.0.0

-- T=I behind a loop wants the I that the loop leaves: another one may not stand for it
abbrev leaves_i : ℕ → Act
leaves_i v = act did 1 [] (write i v 0 ∷ [])

abbrev takes_i : Act
takes_i = act did 3 [] (read i 3 1 ∷ write t 3 2 ∷ [])

wanted : (shown : Cell → Bool) → wants shown (takes_i ∷ []) i ≡ true
wanted shown = refl

left_and_taken : (s : Store) → Fits (leaves_i 3 ∷ takes_i ∷ []) s
left_and_taken s = ((tt, tt), ((refl, (tt, tt)), tt))

not_taken : (s : Store) → Fits (leaves_i 0 ∷ takes_i ∷ []) s → ⊥
not_taken s f = let e : Number (pos 0) ≡ Number (pos 3) = f.1.0.0 in absurd cc
