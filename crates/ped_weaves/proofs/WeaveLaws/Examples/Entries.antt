-- The entry of DO 10 I=I,N, where I is 3 and N is 2, becomes that of DO 10 I=N,I,-1; and the close of a PARALLEL DO has J besides, where a step has put a DO of J into the loop. T=5 follows.
use Rattle.std.proofs.Common.{List, [], ◌∷◌, Bool, refl, sym, ap, inl, inr}
use Rattle.ped_laws.specs.ped_store.specs.Cells.{Cell, same_cell}
use Rattle.ped_laws.specs.ped_store.specs.Stores.{Store, Undefined}
use Rattle.ped_laws.specs.ped_store.specs.Acts.{writes, did, entered, closed, Touch, Act}
use Rattle.ped_laws.specs.Acts.Fitting.{Fits}
use Rattle.ped_laws.specs.Acts.Sets.{wants}
use Rattle.ped_laws.specs.Acts.Pieces.{StandsFor}
use Rattle.ped_laws.proofs.ActLaws.SameCells.{cell_is}
use Rattle.ped_weaves.proofs.WeaveLaws.Examples.Lists.{i, j, n, t, read, write, act}
use Rattle.ped_weaves.specs.Apart.{agreed}
use Rattle.ped_weaves.specs.Puttings.{ReadAmong, IsPutFor}
use Rattle.ped_weaves.proofs.WeaveLaws.AgreedApart.{agreed_suit}
use Rattle.ped_weaves.proofs.WeaveLaws.PutFor.{kept_stands, put_stands}

abbrev shown : Cell → Bool
shown x = same_cell t x

abbrev rest : List Act
rest = act did 3 [] (write t 5 1 ∷ []) ∷ []

abbrev index : Cell → Bool
index x = same_cell i x

abbrev entry : Act
entry = act (entered 0) 1 [] (read i 3 1 ∷ read n 2 2 ∷ write i 3 0 ∷ [])

abbrev new_entry : Act
new_entry = act (entered 0) 1 [] (read n 2 1 ∷ read i 3 2 ∷ write i 2 0 ∷ [])

among : ReadAmong (read i 3 1 ∷ read n 2 2 ∷ []) (read n 2 1 ∷ read i 3 2 ∷ [])
among y (inl e) m = (read n 2 2, inr (inl refl), refl, ap (λ (z : Touch). z.cell) (sym e), ap (λ (z : Touch). z.content) (sym e))
among y (inr (inl e)) m = (read i 3 1, inl refl, refl, ap (λ (z : Touch). z.cell) (sym e), ap (λ (z : Touch). z.content) (sym e))
among y (inr (inr k)) m = absurd k

put_for : IsPutFor index entry new_entry
put_for = record {
  reading = read i 3 1 ∷ read n 2 2 ∷ [];
  rest = write i 3 0 ∷ [];
  new_reading = read n 2 1 ∷ read i 3 2 ∷ [];
  new_rest = write i 2 0 ∷ [];
  in_old = refl;
  in_new = refl;
  writes_nothing = (tt, (tt, tt));
  new_writes_nothing = (tt, (tt, tt));
  among = among;
  same = ((tt, tt), tt);
}

-- the new entry reads I, too, which counts for nothing behind it
pub entered_elsewhere : (s : Store) → Fits (entry ∷ []) s → StandsFor (record { agreed = agreed index shown (entry ∷ rest); old = entry ∷ []; new = new_entry ∷ [] }) (agreed index shown rest) s
entered_elsewhere s f = put_stands index (agreed index shown (entry ∷ rest)) (agreed index shown rest) entry new_entry s f (agreed_suit index shown index (entry ∷ []) rest (λ x h. (h, ap (wants shown rest) (sym (cell_is i x h))))) put_for

abbrev undefines : Cell → Touch
undefines x = record { cell = x; manner = writes; content = Undefined; reference = 0 }

abbrev close : Act
close = act closed 1 [] (undefines n ∷ [])

abbrev new_close : Act
new_close = act closed 1 [] (undefines n ∷ undefines j ∷ [])

abbrev fresh : Cell → Bool
fresh x = same_cell j x

pub closed_with_more : (s : Store) → StandsFor (record { agreed = agreed fresh shown (close ∷ rest); old = close ∷ []; new = new_close ∷ [] }) (agreed fresh shown rest) s
closed_with_more s = kept_stands fresh (agreed fresh shown (close ∷ rest)) (agreed fresh shown rest) (close ∷ []) (new_close ∷ []) s ((tt, tt), tt) (agreed_suit fresh shown fresh (close ∷ []) rest (λ x h. (h, ap (wants shown rest) (sym (cell_is j x h))))) ((tt, tt), tt) (refl, refl, refl, tt)
