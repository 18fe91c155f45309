-- References of a statement and the touches that they make.
use Rattle.std.proofs.Common.{◌≡◌, ℕ, suc, List, [], ◌∷◌, ◌++◌, true, false, not, refl, sym, ap, subst, inl, inr}
use Rattle.ped_laws.specs.ped_flow.specs.ped_tree.specs.Tree.{ProgramTree}
use Rattle.ped_laws.specs.ped_flow.specs.ped_tree.specs.Nests.{Loop}
use Rattle.ped_laws.specs.ped_flow.specs.ped_tree.specs.Accesses.{Access}
use Rattle.ped_laws.specs.ped_graph.specs.ped_refs.specs.References.{Reference, numbered_accesses}
use Rattle.ped_laws.specs.ped_eval.specs.ped_store.specs.Cells.{Cell}
use Rattle.ped_laws.specs.ped_eval.specs.ped_store.specs.Stores.{Content, Store}
use Rattle.ped_laws.specs.ped_eval.specs.ped_store.specs.Acts.{Touch, reads}
use Rattle.ped_laws.specs.ped_eval.specs.ped_store.specs.Races.{is_lines, is_write, is_access}
use Rattle.ped_laws.specs.ped_eval.specs.Scopes.{Names}
use Rattle.ped_laws.specs.ped_eval.specs.Evaluation.{Seen, cell_seen, index_seen, numbered, number_behind}
use Rattle.ped_laws.specs.ped_eval.specs.Statements.{read_touch, write_touch}
use Rattle.ped_laws.specs.Acts.Orders.{IsIn}
use Rattle.ped_laws.proofs.ActLaws.Lists.{in_left, in_right}
use Rattle.ped_laws.proofs.ActLaws.Renamings.{or_right}
use Rattle.ped_laws.proofs.RunLaws.SeenCells.{AllSeen}
use Rattle.ped_laws.proofs.ConflictLaws.MakingReads.{Walk}

-- the cell holds neither the data nor the output
abbrev pub HoldsNoLines : Cell → Type 0
HoldsNoLines c = is_lines c ≡ false

-- one of the touches is an access by the reference with this number
pub record IsTouched (m : ℕ) (ts : List Touch) : Type 0 where
  pub touch : Touch
  pub among : IsIn touch ts
  pub number : touch.reference ≡ m
  pub counts : is_access touch ≡ true

pub touched_left : (m : ℕ) (xs ys : List Touch) → IsTouched m xs → IsTouched m (xs ++ ys)
touched_left m xs ys h = record { touch = h.touch; among = in_left h.touch xs ys h.among; number = h.number; counts = h.counts }

pub touched_right : (m : ℕ) (xs ys : List Touch) → IsTouched m ys → IsTouched m (xs ++ ys)
touched_right m xs ys h = record { touch = h.touch; among = in_right h.touch xs ys h.among; number = h.number; counts = h.counts }

pub touched_later : (m : ℕ) (x : Touch) (ys : List Touch) → IsTouched m ys → IsTouched m (x ∷ ys)
touched_later m x ys h = touched_right m (x ∷ []) ys h

-- each number of these accesses has the property, from the first access on, which has number k
abbrev pub HaveAll : (ℕ → Type 0) → ℕ → List Access → Type 0
HaveAll P k [] = Unit {0}
HaveAll P k (a ∷ rest) = P k × HaveAll P (suc k) rest

-- the references with these accesses have it
pub reference_has : (P : ℕ → Type 0) (n k : ℕ) (nest : List Loop) (accesses : List Access) → HaveAll P k accesses → (r : Reference) → IsIn r (numbered_accesses n k nest accesses) → P r.number
reference_has P n k nest [] all r i = absurd i
reference_has P n k nest (a ∷ rest) all r (inl e) = subst (λ (q : Reference). P q.number) (sym e) all.0
reference_has P n k nest (a ∷ rest) all r (inr i) = reference_has P n (suc k) nest rest all.1 r i

pub have_weaker : (P Q : ℕ → Type 0) → ((m : ℕ) → P m → Q m) → (k : ℕ) (accesses : List Access) → HaveAll P k accesses → HaveAll Q k accesses
have_weaker P Q f k [] all = tt
have_weaker P Q f k (a ∷ rest) all = (f k all.0, have_weaker P Q f (suc k) rest all.1)

-- a write by the reference with this number
pub written : (c : Cell) (content : Content) (k : ℕ) → IsTouched k (write_touch c content k ∷ [])
written c content k = record { touch = write_touch c content k; among = inl refl; number = refl; counts = refl }

-- an evaluation that has walked through accesses has made touches by their references
module _ (t : ProgramTree) (g : Names) (u : Store) (P : ℕ → Type 0) where
  pub seen_all : (seen : List Seen) (k : ℕ) (accesses rest : List Access) → Walk t g u seen accesses rest → AllSeen HoldsNoLines seen → ((m : ℕ) → IsTouched m (numbered k seen) → P m) → HaveAll P (number_behind k seen) rest → HaveAll P k accesses
  seen_all [] k accesses rest walk apart touched behind = subst (λ (z : List Access). HaveAll P k z) (sym walk) behind
  seen_all (cell_seen c content ∷ more) k accesses rest walk apart touched behind =
      let read : IsTouched k (numbered k (cell_seen c content ∷ more)) = record { touch = read_touch c content k; among = inl refl; number = refl; counts = or_right (is_write reads) (not (is_lines c)) (ap not apart.0) } in
      let others : HaveAll P (suc k) walk.1 = seen_all more (suc k) walk.1 rest walk.5 apart.1 (λ m h. touched m (touched_later m (read_touch c content k) (numbered (suc k) more) h)) behind in
      subst (λ (z : List Access). HaveAll P k z) (sym walk.2) (touched k read, others)
  seen_all (index_seen c v ∷ more) k accesses rest walk apart touched behind = seen_all more k accesses rest walk apart.1 (λ m h. touched m (touched_later m _ (numbered k more) h)) behind
