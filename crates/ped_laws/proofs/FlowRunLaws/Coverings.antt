-- Paths that cover touches: what follows of parts, and of the least parts.
use Rattle.std.proofs.Common.{◌≡◌, ℕ, suc, ℤ, List, [], ◌∷◌, ◌++◌, Bool, true, false, not, ◌&&◌, ◌||◌, if◌then◌else◌, refl, sym, ap, subst, ◌∙◌, ◌⊎◌, inl, inr, eqb, eqb-true, arith}
use Rattle.std.proofs.lemmas.List.Folds.{list_any-append}
use Rattle.std.proofs.lemmas.List.{append-nil}
use Rattle.std.proofs.lemmas.Bool.{or_left, or_right}
use Rattle.ped_flow.specs.ped_base.specs.Lists.{is_same_text, is_among}
use Rattle.ped_eval.specs.ped_store.specs.Cells.{Cell, same_cell}
use Rattle.ped_eval.specs.ped_store.specs.Stores.{Number}
use Rattle.ped_eval.specs.ped_store.specs.Acts.{Manner, reads, writes, is_told, Touch}
use Rattle.ped_eval.specs.ped_store.specs.Races.{is_write}
use Rattle.ped_laws.specs.Acts.Sets.{writes_to, written_by, read_first, needed_by}
use Rattle.ped_eval.specs.Evaluation.{Seen, cell_seen, index_seen, numbered}
use Rattle.ped_eval.specs.Statements.{write_touch}
use Rattle.ped_flow.specs.Events as events
use Rattle.ped_flow.specs.Events.{Event, event, reads_of, overwrites, reads_first, has_value}
use Rattle.ped_flow.proofs.EventLaws.{overwrites-append, reads_first-front, reads_first-back, has_value-append, has_value-kept}
use Rattle.ped_flow.proofs.Truths.{untrue, or_split, or_none}
use Rattle.ped_laws.specs.FlowRuns.Covering.{is_number, holds_number, IsReadOn, Covers}
use Rattle.ped_laws.proofs.FlowRunLaws.Seeing.{is_seen}

-- what is needed by touches and then others
pub needed_parts : (xs ys : List Touch) (c : Cell) → needed_by (xs ++ ys) c ≡ true → (needed_by xs c ≡ true) ⊎ ((written_by xs c ≡ false) × (needed_by ys c ≡ true))
needed_parts [] ys c h = inr (refl, h)
needed_parts (t ∷ xs) ys c h = by t.manner (same_cell t.cell c) (needed_by xs c) (written_by xs c) (needed_by (xs ++ ys) c) h (needed_parts xs ys c)
  where
    by : (m : Manner) (same needed wrote all : Bool) → (if same then read_first m all else all) ≡ true
        → (all ≡ true → (needed ≡ true) ⊎ ((wrote ≡ false) × (needed_by ys c ≡ true)))
        → ((if same then read_first m needed else needed) ≡ true) ⊎ ((((is_write m && same) || wrote) ≡ false) × (needed_by ys c ≡ true))
    by reads true needed wrote all h k = inl refl
    by writes true needed wrote all h k = untrue h
    by is_told true needed wrote all h k = k h
    by reads false needed wrote all h k = k h
    by writes false needed wrote all h k = k h
    by is_told false needed wrote all h k = k h

pub written_parts : (xs ys : List Touch) (c : Cell) → written_by (xs ++ ys) c ≡ (written_by xs c || written_by ys c)
written_parts xs ys c = list_any-append (λ t. writes_to t c) xs ys

pub holds_append : (c : Cell) (b : Bool) (xs ys : List Touch) → holds_number c b (xs ++ ys) ≡ holds_number c (holds_number c b xs) ys
holds_append c b [] ys = refl
holds_append c b (t ∷ xs) ys = holds_append c (if writes_to t c then is_number t.content else b) xs ys

-- what holds a number behind, where it held none, holds one
pub holds_anyhow : (c : Cell) (b : Bool) (ts : List Touch) → holds_number c false ts ≡ true → holds_number c b ts ≡ true
holds_anyhow c true [] h = refl
holds_anyhow c false [] h = h
holds_anyhow c b (t ∷ ts) h = by (writes_to t c) (is_number t.content) h (λ k. holds_anyhow c b ts k)
  where
    by : (w v : Bool) → holds_number c (if w then v else false) ts ≡ true → (holds_number c false ts ≡ true → holds_number c b ts ≡ true) → holds_number c (if w then v else b) ts ≡ true
    by true v h k = h
    by false v h k = k h

-- what isn't true is false
pub not_so : (a : Bool) → (a ≡ true → ⊥) → a ≡ false
not_so true h = absurd (h refl)
not_so false h = refl

module _ (x : List ℕ) (c : Cell) where
  pub covers_nothing : Covers x c [] []
  covers_nothing = record { read = λ h. untrue h; written = λ h. h; valued = λ b h. h }

  pub covers_append : (p q : List Event) (xs ys : List Touch) → Covers x c p xs → Covers x c q ys → Covers x c (p ++ q) (xs ++ ys)
  covers_append p q xs ys h k = record { read = read; written = written; valued = valued }
    where
      not_overwritten : written_by xs c ≡ false → overwrites x p ≡ false
      not_overwritten w = not_so (overwrites x p) (λ o. let e : false ≡ true = sym w ∙ h.written o in untrue e)

      read_by : (needed_by xs c ≡ true) ⊎ ((written_by xs c ≡ false) × (needed_by ys c ≡ true)) → IsReadOn x (p ++ q)
      read_by (inl n) = let r = h.read n in (r.0, reads_first-front x r.0 p q r.1)
      read_by (inr n) = let r = k.read n.1 in (r.0, reads_first-back x r.0 p q (not_overwritten n.0) r.1)

      read : needed_by (xs ++ ys) c ≡ true → IsReadOn x (p ++ q)
      read n = read_by (needed_parts xs ys c n)

      written_by_one : (overwrites x p ≡ true) ⊎ (overwrites x q ≡ true) → written_by (xs ++ ys) c ≡ true
      written_by_one (inl o) = written_parts xs ys c ∙ or_left (written_by xs c) (written_by ys c) (h.written o)
      written_by_one (inr o) = written_parts xs ys c ∙ or_right (written_by xs c) (written_by ys c) (k.written o)

      written : overwrites x (p ++ q) ≡ true → written_by (xs ++ ys) c ≡ true
      written o = written_by_one (or_split (overwrites x p) (overwrites x q) (sym (overwrites-append x p q) ∙ o))

      value_by : (b v : Bool) → has_value x b p ≡ v → has_value x v q ≡ true → holds_number c (holds_number c b xs) ys ≡ true
      value_by b true e g = ap (λ (z : Bool). holds_number c z ys) (h.valued b e) ∙ k.valued true g
      value_by b false e g = holds_anyhow c (holds_number c b xs) ys (k.valued false g)

      valued : (b : Bool) → has_value x b (p ++ q) ≡ true → holds_number c b (xs ++ ys) ≡ true
      valued b g = holds_append c b xs ys ∙ value_by b (has_value x b p) refl (sym (has_value-append x b p q) ∙ g)

  pub covers_at_end : (p : List Event) (ts : List Touch) → Covers x c p ts → Covers x c p (ts ++ [])
  covers_at_end p ts h = subst (λ (z : List Touch). Covers x c p z) (sym (append-nil ts)) h

  pub kept_number : (ts : List Touch) (b : Bool) → written_by ts c ≡ false → holds_number c b ts ≡ b
  kept_number [] b w = refl
  kept_number (t ∷ ts) b w =
      let parts = or_none (writes_to t c) (written_by ts c) w in
      ap (λ (o : Bool). holds_number c (if o then is_number t.content else b) ts) parts.0 ∙ kept_number ts b parts.1

  -- touches that neither read nor write the cell
  pub covers_others : (ts : List Touch) → needed_by ts c ≡ false → written_by ts c ≡ false → Covers x c [] ts
  covers_others ts n w = record { read = λ h. let z : false ≡ true = sym n ∙ h in untrue z; written = λ h. untrue h; valued = λ b h. kept_number ts b w ∙ h }

  -- a touch of another cell
  pub covers_other : (t : Touch) → same_cell t.cell c ≡ false → Covers x c [] (t ∷ [])
  covers_other t e = covers_others (t ∷ []) (ap (λ (b : Bool). if b then read_first t.manner false else false) e) (ap (λ (b : Bool). b || false) (none t.manner (same_cell t.cell c) e))
    where
      none : (m : Manner) (same : Bool) → same ≡ false → (is_write m && same) ≡ false
      none reads same e = refl
      none writes same e = e
      none is_told same e = refl

  -- the scalar is overwritten, and its cell written
  pub covers_write : (n k : ℕ) (v : ℤ) (d : Cell) → same_cell d c ≡ true → Covers x c (event n events.assigns x ∷ []) (write_touch d (Number v) k ∷ [])
  covers_write n k v d e = record {
    read = λ h. let z : false ≡ true = sym (ap (λ (b : Bool). if b then false else false) e) ∙ h in untrue z;
    written = λ h. ap (λ (b : Bool). b || false) e;
    valued = λ b h. ap (λ (o : Bool). if o then true else b) e;
  }

  -- something happens to another scalar
  pub covers_elsewhere : (path : List Event) → overwrites x path ≡ false → Covers x c path []
  covers_elsewhere path o = record { read = λ h. untrue h; written = λ h. let z : false ≡ true = sym o ∙ h in untrue z; valued = λ b h. sym (has_value-kept x b path o) ∙ h }

  -- reads
  seen_needed : (k : ℕ) (seen : List Seen) → needed_by (numbered k seen) c ≡ true → is_seen c seen ≡ true
  seen_needed k [] h = h
  seen_needed k (cell_seen d content ∷ seen) h = by (same_cell d c) h (seen_needed (suc k) seen)
    where
      by : (b : Bool) → (if b then true else needed_by (numbered (suc k) seen) c) ≡ true → (needed_by (numbered (suc k) seen) c ≡ true → is_seen c seen ≡ true) → (b || is_seen c seen) ≡ true
      by true h r = refl
      by false h r = r h
  seen_needed k (index_seen d v ∷ seen) h = by (same_cell d c) h (seen_needed k seen)
    where
      by : (b : Bool) → (if b then needed_by (numbered k seen) c else needed_by (numbered k seen) c) ≡ true → (needed_by (numbered k seen) c ≡ true → is_seen c seen ≡ true) → is_seen c seen ≡ true
      by true h r = r h
      by false h r = r h

  pub seen_unwritten : (k : ℕ) (seen : List Seen) → written_by (numbered k seen) c ≡ false
  seen_unwritten k [] = refl
  seen_unwritten k (cell_seen d content ∷ seen) = seen_unwritten (suc k) seen
  seen_unwritten k (index_seen d v ∷ seen) = seen_unwritten k seen

  seen_keep : (k : ℕ) (b : Bool) (seen : List Seen) → holds_number c b (numbered k seen) ≡ b
  seen_keep k b [] = refl
  seen_keep k b (cell_seen d content ∷ seen) = seen_keep (suc k) b seen
  seen_keep k b (index_seen d v ∷ seen) = seen_keep k b seen

  reads_read : (n : ℕ) (names : List (List ℕ)) → is_among x names ≡ true → reads_first x n (reads_of n names) ≡ true
  reads_read n [] h = h
  reads_read n (y ∷ names) h = by (is_same_text x y) (eqb n n) number h (reads_read n names)
    where
      number : eqb n n ≡ true
      number = grind (arith, eqb-true)

      by : (same number : Bool) → number ≡ true → (same || is_among x names) ≡ true → (is_among x names ≡ true → reads_first x n (reads_of n names) ≡ true)
          → ((same && true && number) || (not (same && false) && reads_first x n (reads_of n names))) ≡ true
      by true true e h r = refl
      by true false e h r = untrue e
      by false number e h r = r h

  reads_keep : (n : ℕ) (names : List (List ℕ)) → overwrites x (reads_of n names) ≡ false
  reads_keep n [] = refl
  reads_keep n (y ∷ names) = by (is_same_text x y) ∙ reads_keep n names
    where
      by : (same : Bool) → ((same && false) || overwrites x (reads_of n names)) ≡ overwrites x (reads_of n names)
      by true = refl
      by false = refl

  pub covers_reads : (n k : ℕ) (names : List (List ℕ)) (seen : List Seen) → (is_seen c seen ≡ true → is_among x names ≡ true) → Covers x c (reads_of n names) (numbered k seen)
  covers_reads n k names seen h = record {
    read = λ e. (n, reads_read n names (h (seen_needed k seen e)));
    written = λ e. let z : false ≡ true = sym (reads_keep n names) ∙ e in untrue z;
    valued = λ b e. seen_keep k b seen ∙ (sym (has_value-kept x b (reads_of n names) (reads_keep n names)) ∙ e);
  }
