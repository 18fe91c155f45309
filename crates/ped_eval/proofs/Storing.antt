-- Notes of what statements read and of the write behind it.
use Rattle.std.proofs.Common.{◌≡◌, ℕ, ◌+◌, ◌<◌, ◌≤◌, ℤ, List, [], ◌∷◌, ◌++◌, length, drop, get_or, true, map, Result, Ok, Err, refl, sym, ap, ◌∙◌, append_assoc}
use Rattle.std.specs.List.{join_with_byte}
use Rattle.std.specs.Fmt.{signed_decimal}
use Rattle.std.proofs.lemmas.List.{append-nil, at_drop_all}
use Rattle.ped_tree.specs.Tree.{ExprTree, Head, ItemTree, Value}
use Rattle.ped_tree.specs.Views.{item_tree}
use Rattle.ped_tree.specs.declared.statements.PrintItem.{PrintItem}
use Rattle.ped_eval.proofs.Walks.{next_drop}
use Rattle.ped_store.specs.Cells.{Cell}
use Rattle.ped_store.specs.Stores.{Store, storable}
use Rattle.ped_eval.specs.Scopes.{Names}
use Rattle.ped_eval.specs.Evaluation.{Seen, Evaluated, ◌>>>◌, given, onward, numbered, number_behind}
use Rattle.ped_eval.specs.Values.{value, target}
use Rattle.ped_eval.specs.Statements.{Stored, assigned, item_text, item_texts, printed_line}
use Rattle.ped_eval.specs.Loops.{limits, in_bounds, Limits}
use Rattle.ped_eval.specs.Noting.{Noted, noted, noted_by, AreNoted, Reading, Referring, Touching, HasNoted, HasReferred, HasAdded, seen_next}
use Rattle.ped_eval.specs.StatementNotes.{reads_noted, done_noted}
use Rattle.ped_eval.specs.declared.notes.Notes.{Notes}
use Rattle.ped_eval.proofs.Notings.{noted_as, both_noted}
use Rattle.ped_eval.proofs.Seeing.{one_seen, two_seen}

number_seen : (c : Cell) (r : Result ℤ ℕ) → (◌>>>◌ {B = Stored} (given r) (λ n. given (Ok (record { cell = c; number = n })))).seen ≡ []
number_seen c (Ok n) = refl
number_seen c (Err n) = refl

-- an assignment reads what its right side reads, and behind a value what its left side does
pub assigned_seen : (g : Names) (left right : ExprTree) (s : Store) → (assigned g left right s).seen ≡ (value g right s).seen ++ seen_next (value g right s).result (target g left s).seen
assigned_seen g left right s = go (value g right s).seen (value g right s).result
  where
    stored : ℤ → Evaluated Stored
    stored v = target g left s >>> λ c. given (storable v) >>> λ n. given (Ok (record { cell = c; number = n }))

    placed : (v : ℤ) (seen : List Seen) (r : Result Cell ℕ) → (onward {B = Stored} seen r (λ c. given (storable v) >>> λ n. given (Ok (record { cell = c; number = n })))).seen ≡ seen
    placed v seen (Ok c) = ap (λ (more : List Seen). seen ++ more) (number_seen c (storable v)) ∙ append-nil seen
    placed v seen (Err n) = refl

    go : (seen : List Seen) (r : Result ℤ ℕ) → (onward seen r stored).seen ≡ seen ++ seen_next r (target g left s).seen
    go seen (Ok v) = ap (λ (more : List Seen). seen ++ more) (placed v (target g left s).seen (target g left s).result)
    go seen (Err n) = sym (append-nil seen)

-- the texts of a PRINT read what its items read, up to the first fault
pub texts_seen : (g : Names) (s : Store) (item : ItemTree) (rest : List ItemTree) → (item_texts g (item ∷ rest) s).seen ≡ (item_text g item s).seen ++ seen_next (item_text g item s).result (item_texts g rest s).seen
texts_seen g s item rest = two_seen (λ text texts. Ok (text ∷ texts)) (item_text g item s) (item_texts g rest s)

pub line_seen : (g : Names) (s : Store) (items : List ItemTree) → (printed_line g items s).seen ≡ (item_texts g items s).seen
line_seen g s items = one_seen (λ texts. Ok (join_with_byte 32 texts)) (item_texts g items s)

pub value_seen : (g : Names) (s : Store) (e : ExprTree) → (item_text g (Value e) s).seen ≡ (value g e s).seen
value_seen g s e = one_seen (λ n. Ok (signed_decimal n)) (value g e s)

module _ {A : Type 0} (cell : A → Cell) (e : Evaluated A) (seen : List Seen) (old : Notes) (reads : e.seen ≡ seen) where
  -- what faults notes its reads alone
  pub fault_added : (new : Notes) (n : ℕ) → e.result ≡ Err n → HasNoted old seen new → HasAdded old (done_noted old.next cell e.seen e.result) new
  fault_added new n fault h q =
      let t : Reading old seen new = h q in
      (t.kept, t.touches ∙ ap (λ (ns : List Noted). noted_by old ++ ns) (sym (λ i. done_noted old.next cell (reads i) (fault i))))

  -- what is done notes its reads and its write
  pub write_added : (mid new : Notes) (w : A) → e.result ≡ Ok w → HasNoted old seen mid → HasReferred mid (cell w) true new → HasAdded old (done_noted old.next cell e.seen e.result) new
  write_added mid new w ok h written q =
      let r : Referring mid (cell w) true new = written q in
      let t : Reading old seen mid = h r.kept in (
        t.kept,
        r.touches ∙ (λ i. t.touches i ++ record { cell = cell w; writes = true; reference = t.next i } ∷ [])
            ∙ append_assoc (noted_by old) (noted (numbered old.next seen)) (record { cell = cell w; writes = true; reference = number_behind old.next seen } ∷ [])
            ∙ ap (λ (ns : List Noted). noted_by old ++ ns) (sym (λ i. done_noted old.next cell (reads i) (ok i))),
      )

-- the bounds of a DO read one behind the other
pub limits_seen : (g : Names) (h : Head) (s : Store) → (limits g h s).seen ≡ (value g h.first s).seen ++ seen_next (value g h.first s >>> λ u. given (in_bounds u)).result (value g h.last s).seen
limits_seen g h s = first (value g h.first s).seen (value g h.first s).result
  where
    second : ℤ → Evaluated Limits
    second m = value g h.last s >>> λ v. given (in_bounds v) >>> λ n. given (Ok (record { first = m; last = n }))

    tested : (m : ℤ) (r : Result ℤ ℕ) → (◌>>>◌ {B = Limits} (given r) (λ n. given (Ok (record { first = m; last = n })))).seen ≡ []
    tested m (Ok n) = refl
    tested m (Err n) = refl

    last : (m : ℤ) (seen : List Seen) (r : Result ℤ ℕ) → (onward {B = Limits} seen r (λ v. given (in_bounds v) >>> λ n. given (Ok (record { first = m; last = n })))).seen ≡ seen
    last m seen (Ok v) = ap (λ (more : List Seen). seen ++ more) (tested m (in_bounds v)) ∙ append-nil seen
    last m seen (Err n) = refl

    within : (r : Result ℤ ℕ) → (given r >>> second).seen ≡ seen_next r (value g h.last s).seen
    within (Ok m) = last m (value g h.last s).seen (value g h.last s).result
    within (Err n) = refl

    first : (seen : List Seen) (r : Result ℤ ℕ) → (onward seen r (λ u. given (in_bounds u) >>> second)).seen ≡ seen ++ seen_next (onward seen r (λ u. given (in_bounds u))).result (value g h.last s).seen
    first seen (Ok u) = ap (λ (more : List Seen). seen ++ more) (within (in_bounds u))
    first seen (Err n) = sym (append-nil seen)

-- notes that begin with a statement
pub fresh_noted : (fresh new : Notes) (seen : List Seen) → noted_by fresh ≡ [] → fresh.next ≡ 1 → HasNoted fresh seen new → AreNoted new (reads_noted seen)
fresh_noted fresh new seen none one h q = (h q).touches ∙ (λ i. none i ++ noted (numbered (one i) seen))

pub fresh_next : (fresh new : Notes) (seen : List Seen) → fresh.next ≡ 1 → HasNoted fresh seen new → new.kept ≡ true → new.next ≡ number_behind 1 seen
fresh_next fresh new seen one h q = (h q).next ∙ ap (λ (n : ℕ). number_behind n seen) one

pub fresh_added : (fresh new : Notes) (ns : ℕ → List Noted) → noted_by fresh ≡ [] → fresh.next ≡ 1 → HasAdded fresh (ns fresh.next) new → AreNoted new (ns 1)
fresh_added fresh new ns none one h q = (h q).1 ∙ (λ i. none i ++ ns (one i))

-- a write by a reference, and then the others
pub refer_next : (a b : Notes) (c : Cell) (more : List Noted) → Referring a c true b → noted_by b ++ more ≡ noted_by a ++ record { cell = c; writes = true; reference = a.next } ∷ more
refer_next a b c more h = ap (λ (ns : List Noted). ns ++ more) h.touches ∙ append_assoc (noted_by a) (record { cell = c; writes = true; reference = a.next } ∷ []) more

pub touch_next : (a b : Notes) (c : Cell) (more : List Noted) → Touching a c true b → noted_by b ++ more ≡ noted_by a ++ record { cell = c; writes = true; reference = 0 } ∷ more
touch_next a b c more h = ap (λ (ns : List Noted). ns ++ more) h.touches ∙ append_assoc (noted_by a) (record { cell = c; writes = true; reference = 0 } ∷ []) more

module _ (g : Names) (s : Store) (old mid : Notes) (items : List PrintItem) (i : ℕ) where
  abbrev behind : List ItemTree
  behind = map item_tree (drop (i + 1) items)

  -- behind the last item of a PRINT nothing is read
  pub texts_end : length items ≤ i → (item_texts g (map item_tree (drop i items)) s).seen ≡ []
  texts_end h = at_drop_all (λ (l : List PrintItem). (item_texts g (map item_tree l) s).seen) items i h

  module _ (x : PrintItem) (h : i < length items) (k : x ≡ get_or items i x) (noted_here : HasNoted old (item_text g (item_tree x) s).seen mid) where
    texts_here : (item_texts g (map item_tree (drop i items)) s).seen ≡ (item_text g (item_tree x) s).seen ++ seen_next (item_text g (item_tree x) s).result (item_texts g behind s).seen
    texts_here =
        ap (λ (l : List ItemTree). (item_texts g l s).seen) (ap (map item_tree) (next_drop items i x h) ∙ ap (λ (y : PrintItem). item_tree y ∷ behind) (sym k))
        ∙ texts_seen g s (item_tree x) behind

    -- an item of a PRINT is noted, and then those behind it
    pub item_step : (new : Notes) (text : List ℕ) → (item_text g (item_tree x) s).result ≡ Ok text → HasNoted mid (item_texts g behind s).seen new → HasNoted old (item_texts g (map item_tree (drop i items)) s).seen new
    item_step new text e rest =
        let all = texts_here ∙ ap (λ (r : Result (List ℕ) ℕ). (item_text g (item_tree x) s).seen ++ seen_next r (item_texts g behind s).seen) e in
        noted_as old new _ (item_texts g (map item_tree (drop i items)) s).seen (sym all) (both_noted old mid new (item_text g (item_tree x) s).seen (item_texts g behind s).seen noted_here rest)

    -- one that faults is the last
    pub item_fault : (n : ℕ) → (item_text g (item_tree x) s).result ≡ Err n → HasNoted old (item_texts g (map item_tree (drop i items)) s).seen mid
    item_fault n e =
        let all = texts_here ∙ ap (λ (r : Result (List ℕ) ℕ). (item_text g (item_tree x) s).seen ++ seen_next r (item_texts g behind s).seen) e ∙ append-nil (item_text g (item_tree x) s).seen in
        noted_as old mid _ (item_texts g (map item_tree (drop i items)) s).seen (sym all) noted_here

-- the bounds of a DO are noted one behind the other
pub limits_noted : (g : Names) (h : Head) (s : Store) (old mid new : Notes) (r : Result ℤ ℕ) → r ≡ (value g h.first s >>> λ u. given (in_bounds u)).result
    → HasNoted old (value g h.first s).seen mid → HasNoted mid (seen_next r (value g h.last s).seen) new → HasNoted old (limits g h s).seen new
limits_noted g h s old mid new r e first last =
    noted_as old new ((value g h.first s).seen ++ seen_next r (value g h.last s).seen) (limits g h s).seen
    (ap (λ (q : Result ℤ ℕ). (value g h.first s).seen ++ seen_next q (value g h.last s).seen) e ∙ sym (limits_seen g h s))
    (both_noted old mid new (value g h.first s).seen (seen_next r (value g h.last s).seen) first last)
