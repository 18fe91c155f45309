-- Notes behind evaluations, one after the other.
use Rattle.std.proofs.Common.{◌≡◌, ℕ, suc, ◌+◌, ◌<◌, ◌≤◌, ℤ, length, drop, get_or, List, [], ◌∷◌, ◌++◌, Bool, true, false, true≢false, not, map, refl, sym, ap, subst, ◌∙◌, append_assoc, arith, if◌then◌else◌, Ok, Err, Option, Some, None}
use Rattle.std.specs.Prelude.{Result, filter}
use Rattle.std.proofs.lemmas.List.{append-nil, map-append}
use Rattle.std.proofs.lemmas.List.Elements.{filter-append}
use Rattle.ped_base.specs.Lists.{is_among}
use Rattle.ped_store.specs.Cells as cells
use Rattle.ped_store.specs.Cells.{Cell, Scalar, Private, In, Out}
use Rattle.ped_store.specs.Memories.{Memory, got}
use Rattle.ped_store.specs.Storage.{is_within}
use Rattle.ped_eval.specs.Targets.{bounded}
use Rattle.ped_store.specs.Stores.{Content, Undefined, Number, Lines, Store, number_read, outside_bounds}
use Rattle.ped_store.specs.Acts.{Touch, reads, is_told}
use Rattle.ped_store.specs.Races.{is_access, is_lines, is_write}
use Rattle.ped_eval.specs.Scopes.{Frame, Scope, cell_of, index_value}
use Rattle.ped_eval.specs.Values.{variable_value}
use Rattle.ped_eval.specs.Agreement.{path_of}
use Rattle.ped_eval.specs.Evaluation.{Seen, cell_seen, index_seen, numbered, number_behind}
use Rattle.ped_tree.specs.declared.expressions.Expr.{Expr}
use Rattle.ped_tree.specs.declared.conditions.Cond.{Cond}
use Rattle.ped_tree.specs.Tree.{ExprTree, Element, CondTree, Rel}
use Rattle.ped_tree.specs.declared.conditions.Relation.{Relation}
use Rattle.ped_tree.specs.Views.{expr_tree, cond_tree, pack_exprs}
use Rattle.ped_store.specs.Keeping.{memory_of}
use Rattle.ped_eval.specs.declared.surroundings.Surroundings.{Surroundings}
use Rattle.ped_eval.specs.Results.{value_at, target_at, truth_at}
use Rattle.ped_eval.specs.Noting.{Noted, noted, noted_by, Reading, Referring, Touching, HasNoted, HasReferred, HasTouched, seen_next, has_been_read, read_within, seen_at, all_seen_at, target_seen_at, truth_seen_at}
use Rattle.ped_eval.proofs.Steps.{first_of, none_behind}
use Rattle.ped_eval.proofs.Seeing.{IsPlain, plain_target_seen, none_seen, more_seen, element_seen, rel_seen}
use Rattle.ped_eval.specs.declared.notes.Notes.{Notes}

pub noted-append : (xs ys : List Touch) → noted (xs ++ ys) ≡ noted xs ++ noted ys
noted-append xs ys = ap (map _) (filter-append is_access xs ys) ∙ map-append _ (filter is_access xs) (filter is_access ys)

abbrev cell_touch : ℕ → Cell → Content → Touch
cell_touch n c v = record { cell = c; manner = reads; content = v; reference = n }

abbrev index_touch : Cell → ℤ → Touch
index_touch c v = record { cell = c; manner = is_told; content = Number v; reference = 0 }

pub numbered-append : (n : ℕ) (a b : List Seen) → numbered n (a ++ b) ≡ numbered n a ++ numbered (number_behind n a) b
numbered-append n [] b = refl
numbered-append n (cell_seen c v ∷ a) b = ap (λ (ts : List Touch). cell_touch n c v ∷ ts) (numbered-append (suc n) a b)
numbered-append n (index_seen c v ∷ a) b = ap (λ (ts : List Touch). index_touch c v ∷ ts) (numbered-append n a b)

pub number_behind-append : (n : ℕ) (a b : List Seen) → number_behind n (a ++ b) ≡ number_behind (number_behind n a) b
number_behind-append n [] b = refl
number_behind-append n (cell_seen c v ∷ a) b = number_behind-append (suc n) a b
number_behind-append n (index_seen c v ∷ a) b = number_behind-append n a b

-- nothing is read
pub none_noted : (a : Notes) → HasNoted a [] a
none_noted a q = record { kept = q; touches = sym (append-nil (noted_by a)); next = refl }

-- notes that nobody keeps before an evaluation are kept by nobody after it
pub still_unkept : (a b : Notes) (x : List Seen) → a.kept ≡ false → HasNoted a x b → b.kept ≡ false
still_unkept a b x h seen = go b.kept refl
  where
    go : (k : Bool) → b.kept ≡ k → b.kept ≡ false
    go true e = absurd (true≢false (sym (seen e).kept ∙ h))
    go false e = e

-- one evaluation behind another
pub both_noted : (a b c : Notes) (x y : List Seen) → HasNoted a x b → HasNoted b y c → HasNoted a (x ++ y) c
both_noted a b c x y first second q =
    let k : Reading b y c = second q in
    let h : Reading a x b = first k.kept in
    record {
      kept = h.kept;
      touches =
          k.touches ∙ (λ i. h.touches i ++ noted (numbered (h.next i) y))
          ∙ append_assoc (noted_by a) (noted (numbered a.next x)) (noted (numbered (number_behind a.next x) y))
          ∙ ap (λ (ns : List Noted). noted_by a ++ ns) (sym (ap noted (numbered-append a.next x y) ∙ noted-append (numbered a.next x) (numbered (number_behind a.next x) y)));
      next = k.next ∙ ap (λ (n : ℕ). number_behind n y) h.next ∙ sym (number_behind-append a.next x y);
    }

-- what is noted as is read
pub noted_as : (a b : Notes) (x y : List Seen) → x ≡ y → HasNoted a x b → HasNoted a y b
noted_as a b x y e h = subst (λ (seen : List Seen). HasNoted a seen b) e h

-- an access among touches
pub noted_first : (t : Touch) (ts : List Touch) → is_access t ≡ true → noted (t ∷ ts) ≡ record { cell = t.cell; writes = is_write t.manner; reference = t.reference } ∷ noted ts
noted_first t ts h = ap (λ (b : Bool). map (λ (t : Touch). record { cell = t.cell; writes = is_write t.manner; reference = t.reference }) (if b then t ∷ filter is_access ts else filter is_access ts)) h

-- the read of a cell by a reference
pub read_referred : (a b : Notes) (c : Cell) (v : Content) → is_lines c ≡ false → HasReferred a c false b → HasNoted a (cell_seen c v ∷ []) b
read_referred a b c v h referred q =
    let r : Referring a c false b = referred q in
    record { kept = r.kept; touches = r.touches ∙ ap (λ (ns : List Noted). noted_by a ++ ns) (sym (noted_first (cell_touch a.next c v) [] (ap not h))); next = r.next }

-- the read of the variable of a DO in its body
pub index_touched : (a b : Notes) (c : Cell) (v : ℤ) → is_lines c ≡ false → HasTouched a c false b → HasNoted a (index_seen c v ∷ []) b
index_touched a b c v h touched q =
    let r : Touching a c false b = touched q in
    record { kept = r.kept; touches = r.touches ∙ ap (λ (ns : List Noted). noted_by a ++ ns) (sym (noted_first (index_touch c v) [] (ap not h))); next = r.next }

lines_by : (f : Frame) (fs : Scope) (x : List ℕ) (b : Bool) → is_lines (cell_of fs x) ≡ false → is_lines (if b then Private x (path_of (f ∷ fs)) else cell_of fs x) ≡ false
lines_by f fs x true h = refl
lines_by f fs x false h = h

-- the cell of a scalar is neither the data nor the output
pub scalar_no_lines : (scope : Scope) (x : List ℕ) → is_lines (cell_of scope x) ≡ false
scalar_no_lines [] x = refl
scalar_no_lines (f ∷ fs) x = lines_by f fs x (is_among x f.private) (scalar_no_lines fs x)

module _ (a b : Notes) (scope : Scope) (x : List ℕ) (s : Store) where
  -- the variable of a DO is noted in its body
  pub variable_told : (v : ℤ) → index_value scope x ≡ Some v → HasTouched a (cell_of scope x) false b → HasNoted a (variable_value (index_value scope x) s (cell_of scope x)).seen b
  variable_told v h r =
      noted_as a b (index_seen (cell_of scope x) v ∷ []) (variable_value (index_value scope x) s (cell_of scope x)).seen (ap (λ (o : Option ℤ). (variable_value o s (cell_of scope x)).seen) (sym h))
      (index_touched a b (cell_of scope x) v (scalar_no_lines scope x) r)

  -- another scalar is noted as its cell
  pub variable_read : index_value scope x ≡ None → HasReferred a (cell_of scope x) false b → HasNoted a (variable_value (index_value scope x) s (cell_of scope x)).seen b
  variable_read h r =
      noted_as a b (cell_seen (cell_of scope x) (s (cell_of scope x)) ∷ []) (variable_value (index_value scope x) s (cell_of scope x)).seen (ap (λ (o : Option ℤ). (variable_value o s (cell_of scope x)).seen) (sym h))
      (read_referred a b (cell_of scope x) (s (cell_of scope x)) (scalar_no_lines scope x) r)

-- the read of a cell that lies within its bounds is noted, and else nothing
pub within_noted : (a b : Notes) (c : Cell) (s : Store) (r : Result Cell ℕ) → is_lines c ≡ false → r ≡ Ok c → HasReferred a c false b → HasNoted a (read_within s r) b
within_noted a b c s r l h k = noted_as a b (cell_seen c (s c) ∷ []) (read_within s r) (ap (read_within s) (sym h)) (read_referred a b c (s c) l k)

pub outside_noted : (a : Notes) (s : Store) (r : Result Cell ℕ) (n : ℕ) → r ≡ Err n → HasNoted a (read_within s r) a
outside_noted a s r n h = noted_as a a [] (read_within s r) (ap (read_within s) (sym h)) (none_noted a)

-- behind a value the next evaluation is noted, and behind a fault nothing
pub next_noted : {A : Type 0} (a b : Notes) (r : Result A ℕ) (u : A) (x : List Seen) → r ≡ Ok u → HasNoted a x b → HasNoted a (seen_next r x) b
next_noted a b r u x h k = noted_as a b x (seen_next r x) (ap (λ (q : Result _ ℕ). seen_next q x) (sym h)) k

pub fault_noted : {A : Type 0} (a : Notes) (r : Result A ℕ) (n : ℕ) (x : List Seen) → r ≡ Err n → HasNoted a (seen_next r x) a
fault_noted a r n x h = noted_as a a [] (seen_next r x) (ap (λ (q : Result _ ℕ). seen_next q x) (sym h)) (none_noted a)

-- a cell that has been read lies within its bounds
pub read_within_bounds : (m : Memory) (c : Cell) (r : Result ℤ ℕ) → r ≡ got m c → has_been_read r ≡ true → bounded m c ≡ Ok c
read_within_bounds m (cells.Element x js) r e h = go (is_within (m.bounds x) js) (ap has_been_read (sym e) ∙ h)
  where
    go : (b : Bool) → has_been_read (if b then number_read (m.cells (cells.Element x js)) else Err outside_bounds) ≡ true → (if b then Ok (cells.Element x js) else Err outside_bounds) ≡ Ok (cells.Element x js)
    go true h = refl
    go false h = absurd cc
read_within_bounds m (Scalar x) r e h = refl
read_within_bounds m (Private x iterations) r e h = refl
read_within_bounds m In r e h = refl
read_within_bounds m Out r e h = refl

always_read : (v : Content) → has_been_read (number_read v) ≡ true
always_read Undefined = refl
always_read (Number n) = refl
always_read (Lines lines) = refl

-- a cell that hasn't been read lies outside its bounds
pub unread_outside_bounds : (m : Memory) (c : Cell) (r : Result ℤ ℕ) → r ≡ got m c → has_been_read r ≡ false → (n : ℕ) × (bounded m c ≡ Err n)
unread_outside_bounds m (cells.Element x js) r e h = go (is_within (m.bounds x) js) (ap has_been_read (sym e) ∙ h)
  where
    go : (b : Bool) → has_been_read (if b then number_read (m.cells (cells.Element x js)) else Err outside_bounds) ≡ false → (n : ℕ) × ((if b then Ok (cells.Element x js) else Err outside_bounds) ≡ Err n)
    go true h = absurd (let k = sym (always_read (m.cells (cells.Element x js))) ∙ h in cc)
    go false h = (outside_bounds, refl)
unread_outside_bounds m (Scalar x) r e h = absurd (let k = sym (always_read (m.cells (Scalar x))) ∙ (ap has_been_read (sym e) ∙ h) in cc)
unread_outside_bounds m (Private x is) r e h = absurd (let k = sym (always_read (m.cells (Private x is))) ∙ (ap has_been_read (sym e) ∙ h) in cc)
unread_outside_bounds m In r e h = absurd (let k = sym (always_read (m.cells In)) ∙ (ap has_been_read (sym e) ∙ h) in cc)
unread_outside_bounds m Out r e h = absurd (let k = sym (always_read (m.cells Out)) ∙ (ap has_been_read (sym e) ∙ h) in cc)

nothing_next : {A : Type 0} (r : Result A ℕ) → seen_next r [] ≡ []
nothing_next (Ok u) = refl
nothing_next (Err n) = refl

module _ (around : Surroundings) where
  -- two operands are noted as their operation
  pub operands_noted : (op : ExprTree → ExprTree → ExprTree) → ((a b : ExprTree) → seen_at around (op a b) ≡ seen_at around a ++ seen_next (value_at around a) (seen_at around b))
      → (old mid new : Notes) (e a b x y z : Expr) (r : Result ℤ ℕ) → expr_tree e ≡ op (expr_tree a) (expr_tree b) → x ≡ a → y ≡ a → z ≡ b → r ≡ value_at around (expr_tree y)
      → HasNoted old (seen_at around (expr_tree x)) mid → HasNoted mid (seen_next r (seen_at around (expr_tree z))) new → HasNoted old (seen_at around (expr_tree e)) new
  operands_noted op reads_op old mid new e a b x y z r is ax ay bz value h k =
      let v : r ≡ value_at around (expr_tree a) = value ∙ ap (λ (q : Expr). value_at around (expr_tree q)) ay in
      let whole : seen_at around (expr_tree e) ≡ seen_at around (expr_tree x) ++ seen_next r (seen_at around (expr_tree z)) =
      ap (seen_at around) is ∙ reads_op (expr_tree a) (expr_tree b)
      ∙ (λ i. seen_at around (expr_tree (sym ax i)) ++ seen_next (sym v i) (seen_at around (expr_tree (sym bz i)))) in
      noted_as old new _ (seen_at around (expr_tree e)) (sym whole) (both_noted old mid new (seen_at around (expr_tree x)) (seen_next r (seen_at around (expr_tree z))) h k)

  -- expressions are noted one after the other
  pub more_noted : (old mid new : Notes) (es : List Expr) (i : ℕ) (e : Expr) (u : ℤ) → i < length es → e ≡ get_or es i e → Ok u ≡ value_at around (expr_tree e)
      → HasNoted old (seen_at around (expr_tree e)) mid → HasNoted mid (all_seen_at around (drop (i + 1) es)) new → HasNoted old (all_seen_at around (drop i es)) new
  more_noted old mid new es i e u h g v first rest =
      let whole : all_seen_at around (drop i es) ≡ seen_at around (expr_tree e) ++ all_seen_at around (drop (i + 1) es) =
      ap (all_seen_at around) (first_of es i e h g) ∙ more_seen around e (drop (i + 1) es)
      ∙ ap (λ (q : Result ℤ ℕ). seen_at around (expr_tree e) ++ seen_next q (all_seen_at around (drop (i + 1) es))) (sym v) in
      noted_as old new _ (all_seen_at around (drop i es)) (sym whole) (both_noted old mid new (seen_at around (expr_tree e)) (all_seen_at around (drop (i + 1) es)) first rest)

  -- the first that faults is the last that is noted
  pub last_noted : (old new : Notes) (es : List Expr) (i : ℕ) (e : Expr) (n : ℕ) → i < length es → e ≡ get_or es i e → Err n ≡ value_at around (expr_tree e)
      → HasNoted old (seen_at around (expr_tree e)) new → HasNoted old (all_seen_at around (drop i es)) new
  last_noted old new es i e n h g v first =
      let whole : all_seen_at around (drop i es) ≡ seen_at around (expr_tree e) =
      ap (all_seen_at around) (first_of es i e h g) ∙ more_seen around e (drop (i + 1) es)
      ∙ ap (λ (q : Result ℤ ℕ). seen_at around (expr_tree e) ++ seen_next q (all_seen_at around (drop (i + 1) es))) (sym v) ∙ append-nil (seen_at around (expr_tree e)) in
      noted_as old new _ (all_seen_at around (drop i es)) (sym whole) first

  pub all_noted : (old : Notes) (es : List Expr) (i : ℕ) → length es ≤ i → HasNoted old (all_seen_at around (drop i es)) old
  all_noted old es i h = noted_as old old [] (all_seen_at around (drop i es)) (sym (ap (all_seen_at around) (none_behind es i h) ∙ none_seen around)) (none_noted old)

  last_seen : (e : Expr) → all_seen_at around (e ∷ []) ≡ seen_at around (expr_tree e)
  last_seen e =
      more_seen around e [] ∙ ap (λ (seen : List Seen). seen_at around (expr_tree e) ++ seen_next (value_at around (expr_tree e)) seen) (none_seen around)
      ∙ ap (λ (seen : List Seen). seen_at around (expr_tree e) ++ seen) (nothing_next (value_at around (expr_tree e))) ∙ append-nil (seen_at around (expr_tree e))

  -- one argument is all
  pub one_noted : (old new : Notes) (es : List Expr) (a : Expr) → length es ≡ 1 → a ≡ get_or es 0 a → HasNoted old (seen_at around (expr_tree a)) new → HasNoted old (all_seen_at around es) new
  one_noted old new es a h e first =
      let all : es ≡ a ∷ [] = first_of es 0 a (omega (arith, h)) e ∙ ap (λ (l : List Expr). a ∷ l) (none_behind es 1 (omega (arith, h))) in
      noted_as old new _ (all_seen_at around es) (sym (ap (all_seen_at around) all ∙ last_seen a)) first

  -- two arguments are all
  pub pair_noted : (old mid new : Notes) (es : List Expr) (a b : Expr) (r : Result ℤ ℕ) → length es ≡ 2 → a ≡ get_or es 0 a → b ≡ get_or es 1 b → r ≡ value_at around (expr_tree a)
      → HasNoted old (seen_at around (expr_tree a)) mid → HasNoted mid (seen_next r (seen_at around (expr_tree b))) new → HasNoted old (all_seen_at around es) new
  pair_noted old mid new es a b r h e f value first second =
      let all : es ≡ a ∷ b ∷ [] =
      first_of es 0 a (omega (arith, h)) e ∙ ap (λ (l : List Expr). a ∷ l) (first_of es 1 b (omega (arith, h)) f ∙ ap (λ (l : List Expr). b ∷ l) (none_behind es 2 (omega (arith, h)))) in
      let whole : all_seen_at around es ≡ seen_at around (expr_tree a) ++ seen_next r (seen_at around (expr_tree b)) =
      ap (all_seen_at around) all ∙ more_seen around a (b ∷ [])
      ∙ (λ i. seen_at around (expr_tree a) ++ seen_next (sym value i) (last_seen b i)) in
      noted_as old new _ (all_seen_at around es) (sym whole) (both_noted old mid new (seen_at around (expr_tree a)) (seen_next r (seen_at around (expr_tree b))) first second)

  -- an element is noted behind its subscripts
  pub element_noted : (old mid new : Notes) (x : List ℕ) (es : List Expr) (r : Result Cell ℕ) → target_at around (Element x (pack_exprs (map expr_tree es))) ≡ r
      → HasNoted old (all_seen_at around es) mid → HasNoted mid (read_within (memory_of around.store.now).cells r) new → HasNoted old (seen_at around (Element x (pack_exprs (map expr_tree es)))) new
  element_noted old mid new x es r h first rest =
      let whole : seen_at around (Element x (pack_exprs (map expr_tree es))) ≡ all_seen_at around es ++ read_within (memory_of around.store.now).cells r =
      element_seen around x es ∙ ap (λ (q : Result Cell ℕ). all_seen_at around es ++ read_within (memory_of around.store.now).cells q) h in
      noted_as old new _ (seen_at around (Element x (pack_exprs (map expr_tree es)))) (sym whole) (both_noted old mid new (all_seen_at around es) (read_within (memory_of around.store.now).cells r) first rest)

  -- two conditions are noted as what they are joined to
  pub conditions_noted : (op : CondTree → CondTree → CondTree) → ((a b : CondTree) → truth_seen_at around (op a b) ≡ truth_seen_at around a ++ seen_next (truth_at around a) (truth_seen_at around b))
      → (old mid new : Notes) (e a b x y z : Cond) (r : Result Bool ℕ) → cond_tree e ≡ op (cond_tree a) (cond_tree b) → x ≡ a → y ≡ a → z ≡ b → r ≡ truth_at around (cond_tree y)
      → HasNoted old (truth_seen_at around (cond_tree x)) mid → HasNoted mid (seen_next r (truth_seen_at around (cond_tree z))) new → HasNoted old (truth_seen_at around (cond_tree e)) new
  conditions_noted op reads_op old mid new e a b x y z r is ax ay bz value h k =
      let v : r ≡ truth_at around (cond_tree a) = value ∙ ap (λ (q : Cond). truth_at around (cond_tree q)) ay in
      let whole : truth_seen_at around (cond_tree e) ≡ truth_seen_at around (cond_tree x) ++ seen_next r (truth_seen_at around (cond_tree z)) =
      ap (truth_seen_at around) is ∙ reads_op (cond_tree a) (cond_tree b)
      ∙ (λ i. truth_seen_at around (cond_tree (sym ax i)) ++ seen_next (sym v i) (truth_seen_at around (cond_tree (sym bz i)))) in
      noted_as old new _ (truth_seen_at around (cond_tree e)) (sym whole) (both_noted old mid new (truth_seen_at around (cond_tree x)) (seen_next r (truth_seen_at around (cond_tree z))) h k)

  -- two sides of a relation are noted as the relation
  pub relation_noted : (old mid new : Notes) (e : Cond) (o : Relation) (a b : Expr) (r : Result ℤ ℕ) → cond_tree e ≡ Rel o (expr_tree a) (expr_tree b) → r ≡ value_at around (expr_tree a)
      → HasNoted old (seen_at around (expr_tree a)) mid → HasNoted mid (seen_next r (seen_at around (expr_tree b))) new → HasNoted old (truth_seen_at around (cond_tree e)) new
  relation_noted old mid new e o a b r is value h k =
      let whole : truth_seen_at around (cond_tree e) ≡ seen_at around (expr_tree a) ++ seen_next r (seen_at around (expr_tree b)) =
      ap (truth_seen_at around) is ∙ rel_seen around o (expr_tree a) (expr_tree b)
      ∙ ap (λ (q : Result ℤ ℕ). seen_at around (expr_tree a) ++ seen_next q (seen_at around (expr_tree b))) (sym value) in
      noted_as old new _ (truth_seen_at around (cond_tree e)) (sym whole) (both_noted old mid new (seen_at around (expr_tree a)) (seen_next r (seen_at around (expr_tree b))) h k)

  -- a left side without subscripts reads nothing
  pub plain_target_noted : (a : Notes) (e : Expr) (t : ExprTree) → expr_tree e ≡ t → IsPlain t → HasNoted a (target_seen_at around (expr_tree e)) a
  plain_target_noted a e t is none = noted_as a a [] (target_seen_at around (expr_tree e)) (sym (ap (target_seen_at around) is ∙ plain_target_seen around t none)) (none_noted a)
