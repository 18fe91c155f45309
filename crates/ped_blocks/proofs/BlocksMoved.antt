-- Blocks that have begun, and how an executable statement takes them on where nothing is refused at it.
use Rattle.std.proofs.Common.{◌≡◌, ℕ, ◌+◌, List, [], ◌∷◌, ◌++◌, Bool, true, false, cond, Option, Some, None, refl, sym, ap, subst, ◌∙◌, arith, append_assoc}
use Rattle.std.specs.Prelude.{IsTrue, ◌&&◌, ◌||◌, not, is_none, if◌then◌else◌}
use Rattle.std.specs.List.{list_any}
use Rattle.std.proofs.lemmas.Bool.{eqb-true}
use Rattle.std.proofs.lemmas.List.{append-nil}
use Rattle.ped_tree.specs.Tree.{CondTree, Head, Program, Implicit, Integer, Dimension, Parameter, Save, Remark}
use Rattle.ped_tree.specs.Grammar.Statement.{Statement}
use Rattle.ped_tree.specs.Grammar.Items.{Item, declares, saves_all, does, continues, logical_if, block_if, else_if, else_line, end_if, begins_do, ends_do, keeps_private, ends_program, says, Entry}
use Rattle.ped_tree.specs.Grammar.Contexts.{OpenLoop, Block, in_then, in_else, in_do, rank, is_do, may_end, has_do, is_in_bare_do, carries_open, without_do, left_by, left_by_label, blocks_behind}
use Rattle.ped_tree.specs.Grammar.BlockForms.{PlainForm, a_simple, a_continue, a_logical_if, PrivateForm, no_private, private_list, BodyForm, nothing, and_then, PartForm, a_plain, an_if, a_do, RestForm, ends_if, has_else, has_else_if, LoopForm, loop, EndingForm, at_plain, at_end_do, with_inner, plain_item, entry, names_of_private, private_entries, body_entries, part_entries, rest_entries, loop_entries, ending_entries, loop_label, has_label, is_free, private_keeps_labels, body_keeps_labels, part_keeps_labels, rest_keeps_labels, loop_keeps_labels, ending_keeps_labels}
use Rattle.ped_tree.specs.Grammar.ProgramRefusals.{lacks_if, lacks_do, is_late_private, leaves_open, closed, ends_badly}

-- a THEN part that an ELSE IF with its condition has ended
pub record OpenArm : Type 0 where
  pub part : BodyForm
  pub statement : Statement
  pub condition : CondTree

-- a block that has begun, with what stands before it: a THEN part, an ELSE part with the THEN part before it, a DO
pub data Part : Type 0 where
  p_then : BodyForm → Statement → CondTree → List OpenArm → Part
  p_else : BodyForm → Statement → CondTree → List OpenArm → BodyForm → Statement → Part
  p_do : BodyForm → Statement → Option ℕ → Head → PrivateForm → Part

abbrev pub count : List OpenArm → ℕ
count [] = 1
count (a ∷ arms) = count arms + 1

-- the line of a PRIVATE statement, 0 where there is none
abbrev pub line_of_private : PrivateForm → ℕ
line_of_private no_private = 0
line_of_private (private_list s names) = s.line

-- a DO that has begun
abbrev pub loop_of : Option ℕ → Head → PrivateForm → OpenLoop
loop_of l h p = record { label = l; variable = h.variable; private = names_of_private p; private_line = line_of_private p }

abbrev pub block_of : Part → Block
block_of (p_then b s d arms) = in_then (count arms)
block_of (p_else b s d arms t e) = in_else (count arms)
block_of (p_do b s l h p) = in_do (loop_of l h p)

abbrev pub around : List Part → List Block
around [] = []
around (p ∷ ps) = block_of p ∷ around ps

abbrev pub labels : List Block → List (Option ℕ)
labels [] = []
labels (in_then n ∷ c) = labels c
labels (in_else n ∷ c) = labels c
labels (in_do d ∷ c) = d.label ∷ labels c

abbrev pub arms_entries : List OpenArm → List Entry
arms_entries [] = []
arms_entries (a ∷ arms) = arms_entries arms ++ (body_entries a.part ++ entry a.statement (else_if a.condition) ∷ [])

abbrev pub begun_entries : Part → List Entry
begun_entries (p_then b s d arms) = body_entries b ++ (entry s (block_if d) ∷ arms_entries arms)
begun_entries (p_else b s d arms t e) = body_entries b ++ (entry s (block_if d) ∷ (arms_entries arms ++ (body_entries t ++ entry e else_line ∷ [])))
begun_entries (p_do b s l h p) = body_entries b ++ (entry s (begins_do l h) ∷ private_entries p)

abbrev pub stack_entries : List Part → List Entry
stack_entries [] = []
stack_entries (p ∷ ps) = stack_entries ps ++ begun_entries p

abbrev pub ArmsFit : List (Option ℕ) → List OpenArm → Type 0
ArmsFit ls [] = Unit {0}
ArmsFit ls (a ∷ arms) = ArmsFit ls arms × IsTrue (body_keeps_labels ls a.part) × IsTrue (is_free ls a.statement)

abbrev pub PartFits : List (Option ℕ) → Part → Type 0
PartFits ls (p_then b s d arms) = IsTrue (body_keeps_labels ls b) × IsTrue (is_free ls s) × ArmsFit ls arms
PartFits ls (p_else b s d arms t e) = IsTrue (body_keeps_labels ls b) × IsTrue (is_free ls s) × ArmsFit ls arms × IsTrue (body_keeps_labels ls t) × IsTrue (is_free ls e)
PartFits ls (p_do b s l h p) = IsTrue (body_keeps_labels ls b) × IsTrue (is_free ls s) × IsTrue (private_keeps_labels (l ∷ ls) p)

abbrev pub StackFits : List Part → Type 0
StackFits [] = Unit {0}
StackFits (p ∷ ps) = StackFits ps × PartFits (labels (around ps)) p

-- a DO has just begun
pub record Fresh (ps : List Part) (b : BodyForm) : Type 0 where
  pub before : BodyForm
  pub statement : Statement
  pub label : Option ℕ
  pub head : Head
  pub below : List Part
  pub is : ps ≡ p_do before statement label head no_private ∷ below
  pub empty : b ≡ nothing

-- the statements so far, as blocks that have begun and the statements of the innermost
pub record Moved (c : List Block) (fresh : Bool) (es : List Entry) : Type 0 where
  pub ps : List Part
  pub b : BodyForm
  pub blocks_are : around ps ≡ c
  pub fits : StackFits ps
  pub current_fits : IsTrue (body_keeps_labels (labels (around ps)) b)
  pub new : fresh ≡ true → Fresh ps b
  pub written : stack_entries ps ++ body_entries b ≡ es

true_and : (a b : Bool) → IsTrue a → IsTrue b → IsTrue (a && b)
true_and true b p q = q
true_and false b p q = absurd cc

abbrev whole_if : Statement → CondTree → List OpenArm → BodyForm → RestForm → PartForm
whole_if s d [] b r = an_if s d b r
whole_if s d (a ∷ arms) b r = whole_if s d arms a.part (has_else_if a.statement a.condition b r)

if_entries : (s : Statement) (d : CondTree) (arms : List OpenArm) (b : BodyForm) (r : RestForm)
    → part_entries (whole_if s d arms b r) ≡ entry s (block_if d) ∷ (arms_entries arms ++ (body_entries b ++ rest_entries r))
if_entries s d [] b r = refl
if_entries s d (a ∷ arms) b r = if_entries s d arms a.part (has_else_if a.statement a.condition b r) ∙ simp append_assoc

if_fits : (ls : List (Option ℕ)) (s : Statement) (d : CondTree) (arms : List OpenArm) (b : BodyForm) (r : RestForm) → IsTrue (is_free ls s) → ArmsFit ls arms → IsTrue (body_keeps_labels ls b) → IsTrue (rest_keeps_labels ls r)
    → IsTrue (part_keeps_labels ls (whole_if s d arms b r))
if_fits ls s d [] b r p q h k = true_and (is_free ls s && body_keeps_labels ls b) (rest_keeps_labels ls r) (true_and (is_free ls s) (body_keeps_labels ls b) p h) k
if_fits ls s d (a ∷ arms) b r p q h k =
    if_fits ls s d arms a.part (has_else_if a.statement a.condition b r) p q.0 q.1
    (true_and (is_free ls a.statement && body_keeps_labels ls b) (rest_keeps_labels ls r) (true_and (is_free ls a.statement) (body_keeps_labels ls b) q.2 h) k)

open_label : (l : ℕ) (c : List Block) → list_any (λ m. has_label m (Some l)) (labels c) ≡ has_do l c
open_label l [] = refl
open_label l (in_then n ∷ c) = open_label l c
open_label l (in_else n ∷ c) = open_label l c
open_label l (in_do d ∷ c) = ap (λ (x : Bool). has_label d.label (Some l) || x) (open_label l c)

no_label : (ls : List (Option ℕ)) → IsTrue (not (list_any (λ l. has_label l None) ls))
no_label [] = refl
no_label (None ∷ ls) = no_label ls
no_label (Some l ∷ ls) = no_label ls

-- no open loop has the label
free_of : (l : ℕ) (c : List Block) → has_do l c ≡ false → IsTrue (not (list_any (λ m. has_label m (Some l)) (labels c)))
free_of l c h = ap not (open_label l c ∙ h)

not_open : (b : Bool) → (b && true) ≡ false → b ≡ false
not_open true h = absurd cc
not_open false h = refl

-- a statement that can't end a loop has the label of none
free_label : (c : List Block) (label : Option ℕ) (i : Item) → ends_badly c label (says i) ≡ false → may_end i ≡ false → IsTrue (not (list_any (λ l. has_label l label) (labels c)))
free_label c None i h k = no_label (labels c)
free_label c (Some l) i h k = free_of l c (not_open (has_do l c) (subst (λ (x : Bool). (has_do l c && not (x && not (has_do l (closed l c)))) ≡ false) k h))

ends_all : (b c : Bool) → b ≡ true → (b && not (true && not c)) ≡ false → c ≡ false
ends_all b true e h = absurd (grind arith)
ends_all b false e h = refl

closed_none : (l : ℕ) (c : List Block) → has_do l c ≡ false → closed l c ≡ c
closed_none l [] h = refl
closed_none l (in_then n ∷ c) h = refl
closed_none l (in_else n ∷ c) h = refl
closed_none l (in_do d ∷ c) h = let k : has_label d.label (Some l) ≡ false = grind arith in rw k refl

-- a label that no open loop has leaves the blocks as they are
left_none : (l : ℕ) (c : List Block) → has_do l c ≡ false → left_by_label l c ≡ c
left_none l [] h = refl
left_none l (in_then n ∷ c) h = rw h refl
left_none l (in_else n ∷ c) h = rw h refl
left_none l (in_do d ∷ c) h =
    let k : has_label d.label (Some l) ≡ false = grind arith in
    let none : has_do l c ≡ false = grind arith in
    rw (none, k) refl

-- where the label's loops are all innermost, they are what it leaves
left_closed : (l : ℕ) (c : List Block) → has_do l (closed l c) ≡ false → closed l c ≡ left_by_label l c
left_closed l [] h = refl
left_closed l (in_then n ∷ c) h = sym (left_none l (in_then n ∷ c) h)
left_closed l (in_else n ∷ c) h = sym (left_none l (in_else n ∷ c) h)
left_closed l (in_do d ∷ c) h =
    let go : (x y : Bool) → has_label d.label (Some l) ≡ x → has_do l c ≡ y → has_do l (cond x (closed l c) (in_do d ∷ c)) ≡ false → cond x (closed l c) (in_do d ∷ c) ≡ cond y (left_by_label l c) (cond x c (in_do d ∷ c)) = λ x y. elim x as (λ x. has_label d.label (Some l) ≡ x → has_do l c ≡ y → has_do l (cond x (closed l c) (in_do d ∷ c)) ≡ false → cond x (closed l c) (in_do d ∷ c) ≡ cond y (left_by_label l c) (cond x c (in_do d ∷ c))) [
      | true ↦ elim y as (λ y. has_label d.label (Some l) ≡ true → has_do l c ≡ y → has_do l (closed l c) ≡ false → closed l c ≡ cond y (left_by_label l c) c) [
        | true ↦ λ e f g. left_closed l c g
        | false ↦ λ e f g. closed_none l c f
      ]
      | false ↦ elim y as (λ y. has_label d.label (Some l) ≡ false → has_do l c ≡ y → has_do l (in_do d ∷ c) ≡ false → in_do d ∷ c ≡ cond y (left_by_label l c) (in_do d ∷ c)) [
        | true ↦ λ e f g. absurd (grind arith)
        | false ↦ λ e f g. refl
      ]
    ] in
    go (has_label d.label (Some l)) (has_do l c) refl refl h

not_true : (b : Bool) → IsTrue (not b) → b ≡ false
not_true true h = absurd cc
not_true false h = refl

-- a statement with none of the labels leaves the blocks as they are
free_left : (label : Option ℕ) (c : List Block) → IsTrue (not (list_any (λ l. has_label l label) (labels c))) → left_by label c ≡ c
free_left None c h = refl
free_left (Some l) c h = left_none l c (sym (open_label l c) ∙ not_true (list_any (λ m. has_label m (Some l)) (labels c)) h)

-- a label that may end loops and doesn't end one badly ends the innermost
left_well : (l : ℕ) (c : List Block) → (has_do l c && not (true && not (has_do l (closed l c)))) ≡ false → closed l c ≡ left_by_label l c
left_well l c h =
    let go : (x : Bool) → has_do l c ≡ x → closed l c ≡ left_by_label l c = λ x. elim x as (λ x. has_do l c ≡ x → closed l c ≡ left_by_label l c) [
      | true ↦ λ e. left_closed l c (ends_all (has_do l c) (has_do l (closed l c)) e h)
      | false ↦ λ e. closed_none l c e ∙ sym (left_none l c e)
    ] in
    go (has_do l c) refl

not_new : {ps : List Part} {b : BodyForm} → false ≡ true → Fresh ps b
not_new e = absurd cc

carried : {c d : List Block} {es fs : List Entry} → Moved c false es → c ≡ d → es ≡ fs → Moved d false fs
carried w p q = record { ps = w.ps; b = w.b; blocks_are = w.blocks_are ∙ p; fits = w.fits; current_fits = w.current_fits; new = not_new; written = w.written ∙ q }

-- a loop in which no block has the label of one round it
inner_fits : (c : List Block) (d : LoopForm) → IsTrue (not (list_any (λ m. has_label m (loop_label d)) (labels c))) → IsTrue (loop_keeps_labels (labels c) d) → IsTrue (part_keeps_labels (labels c) (a_do d))
inner_fits c d h k = true_and (not (list_any (λ m. has_label m (loop_label d)) (labels c))) (loop_keeps_labels (labels c) d) h k

labelled_fits : (c : List Block) (l : ℕ) (d : LoopForm) → loop_label d ≡ Some l → has_do l c ≡ false → IsTrue (loop_keeps_labels (labels c) d) → IsTrue (part_keeps_labels (labels c) (a_do d))
labelled_fits c l d e h k = inner_fits c d (subst (λ (x : Option ℕ). IsTrue (not (list_any (λ m. has_label m x) (labels c)))) (sym e) (free_of l c h)) k

-- a loop's label is that of the statement
same_label : (m : Option ℕ) (l : ℕ) → has_label m (Some l) ≡ true → m ≡ Some l
same_label None l h = absurd cc
same_label (Some m) l h = ap Some (sym (eqb-true l m h))

shut : (ps : List Part) (l : ℕ) (b : BodyForm) (d : LoopForm) → loop_label d ≡ Some l → StackFits ps → IsTrue (body_keeps_labels (labels (around ps)) b) → IsTrue (loop_keeps_labels (labels (around ps)) d) → has_do l (closed l (around ps)) ≡ false
    → Moved (closed l (around ps)) false (stack_entries ps ++ (body_entries b ++ loop_entries d))
shut [] l b d e s f g h =
    record { ps = []; b = and_then b (a_do d); blocks_are = refl; fits = tt; current_fits = true_and (body_keeps_labels [] b) (part_keeps_labels [] (a_do d)) f (labelled_fits [] l d e h g); new = not_new; written = refl }
shut (p_then a q k arms ∷ ps) l b d e s f g h =
    let c = around (p_then a q k arms ∷ ps) in
    record { ps = p_then a q k arms ∷ ps; b = and_then b (a_do d); blocks_are = refl; fits = s; current_fits = true_and (body_keeps_labels (labels c) b) (part_keeps_labels (labels c) (a_do d)) f (labelled_fits c l d e h g); new = not_new; written = refl }
shut (p_else a q k arms t o ∷ ps) l b d e s f g h =
    let c = around (p_else a q k arms t o ∷ ps) in
    record { ps = p_else a q k arms t o ∷ ps; b = and_then b (a_do d); blocks_are = refl; fits = s; current_fits = true_and (body_keeps_labels (labels c) b) (part_keeps_labels (labels c) (a_do d)) f (labelled_fits c l d e h g); new = not_new; written = refl }
shut (p_do a q m head p ∷ ps) l b d e s f g h =
    let c = around (p_do a q m head p ∷ ps) in
    let all = stack_entries (p_do a q m head p ∷ ps) ++ (body_entries b ++ loop_entries d) in
    let go : (x : Bool) → has_label m (Some l) ≡ x → has_do l (cond x (closed l (around ps)) c) ≡ false → Moved (cond x (closed l (around ps)) c) false all = λ x. elim x as (λ x. has_label m (Some l) ≡ x → has_do l (cond x (closed l (around ps)) c) ≡ false → Moved (cond x (closed l (around ps)) c) false all) [
      | true ↦ λ i r.
          let same = same_label m l i in
          let ls = labels (around ps) in
          let ending = true_and (has_label m (loop_label d)) (loop_keeps_labels (m ∷ ls) d) (subst (λ (y : Option ℕ). IsTrue (has_label m y)) (sym e) i) g in
          let fits = true_and (is_free ls q && private_keeps_labels (m ∷ ls) p && body_keeps_labels (m ∷ ls) b) (ending_keeps_labels (m ∷ ls) m (with_inner d))
          (true_and (is_free ls q && private_keeps_labels (m ∷ ls) p) (body_keeps_labels (m ∷ ls) b) (true_and (is_free ls q) (private_keeps_labels (m ∷ ls) p) s.1.1 s.1.2) f) ending in
          let lines : stack_entries ps ++ (body_entries a ++ entry q (begins_do m head) ∷ (private_entries p ++ body_entries b ++ loop_entries d)) ≡ all = simp append_assoc in
          carried (shut ps l a (loop q m head p b (with_inner d)) same s.0 s.1.0 fits r) refl lines
      | false ↦ λ i r.
          record { ps = p_do a q m head p ∷ ps; b = and_then b (a_do d); blocks_are = refl; fits = s; current_fits = true_and (body_keeps_labels (labels c) b) (part_keeps_labels (labels c) (a_do d)) f (labelled_fits c l d e r g); new = not_new; written = refl }
    ] in
    go (has_label m (Some l)) refl h

stays_plain : (s : Statement) (p : PlainForm) (ps : List Part) (b : BodyForm) → StackFits ps → IsTrue (body_keeps_labels (labels (around ps)) b) → IsTrue (is_free (labels (around ps)) s)
    → Moved (around ps) false (stack_entries ps ++ (body_entries b ++ entry s (plain_item p) ∷ []))
stays_plain s p ps b f g h =
    let ls = labels (around ps) in
    record { ps = ps; b = and_then b (a_plain s p); blocks_are = refl; fits = f; current_fits = true_and (body_keeps_labels ls b) (is_free ls s) g h; new = not_new; written = refl }

-- a statement that ends the innermost loop, which has its label, and those round it with that label
ends_loops : (s : Statement) (i : Item) (ending : EndingForm) (l : ℕ) → ending_entries ending ≡ entry s i ∷ [] → ((m : Option ℕ) (ls : List (Option ℕ)) → IsTrue (has_label m (Some l)) → IsTrue (ending_keeps_labels (m ∷ ls) m ending))
    → (ps : List Part) (b : BodyForm) → StackFits ps → IsTrue (body_keeps_labels (labels (around ps)) b) → has_do l (around ps) ≡ true → has_do l (closed l (around ps)) ≡ false
    → Moved (closed l (around ps)) false (stack_entries ps ++ (body_entries b ++ entry s i ∷ []))
ends_loops s i ending l is keeps [] b f g x y = absurd cc
ends_loops s i ending l is keeps (p_then a q k arms ∷ ps) b f g x y = absurd (let z : false ≡ true = sym y ∙ x in cc)
ends_loops s i ending l is keeps (p_else a q k arms t o ∷ ps) b f g x y = absurd (let z : false ≡ true = sym y ∙ x in cc)
ends_loops s i ending l is keeps (p_do a q m head v ∷ ps) b f g x y =
    let c = around (p_do a q m head v ∷ ps) in
    let same : has_label m (Some l) ≡ true = grind arith in
    let z : has_do l (closed l (around ps)) ≡ false = rw same at y in
    let ls = labels (around ps) in
    let fits = true_and (is_free ls q && private_keeps_labels (m ∷ ls) v && body_keeps_labels (m ∷ ls) b) (ending_keeps_labels (m ∷ ls) m ending)
    (true_and (is_free ls q && private_keeps_labels (m ∷ ls) v) (body_keeps_labels (m ∷ ls) b) (true_and (is_free ls q) (private_keeps_labels (m ∷ ls) v) f.1.1 f.1.2) g) (keeps m ls same) in
    let all = stack_entries (p_do a q m head v ∷ ps) ++ (body_entries b ++ entry s i ∷ []) in
    let ordered : stack_entries ps ++ (body_entries a ++ entry q (begins_do m head) ∷ (private_entries v ++ body_entries b ++ entry s i ∷ [])) ≡ all = simp append_assoc in
    let lines = ap (λ (es : List Entry). stack_entries ps ++ (body_entries a ++ entry q (begins_do m head) ∷ (private_entries v ++ body_entries b ++ es))) is ∙ ordered in
    let blocks : closed l (around ps) ≡ closed l c = rw same refl in
    carried (shut ps l a (loop q m head v b ending) (same_label m l same) f.0 f.1.0 fits z) blocks lines

-- where a label's loops are all innermost, there is one on top
ends_plain : (s : Statement) (p : PlainForm) (l : ℕ) → s.label ≡ Some l → (ps : List Part) (b : BodyForm) → StackFits ps → IsTrue (body_keeps_labels (labels (around ps)) b) → (x : Bool) → has_do l (around ps) ≡ x
    → (has_do l (around ps) && not (true && not (has_do l (closed l (around ps))))) ≡ false → Moved (closed l (around ps)) false (stack_entries ps ++ (body_entries b ++ entry s (plain_item p) ∷ []))
ends_plain s p l e ps b f g false x h =
    let free : IsTrue (is_free (labels (around ps)) s) = subst (λ (y : Option ℕ). IsTrue (not (list_any (λ m. has_label m y) (labels (around ps))))) (sym e) (free_of l (around ps) x) in
    subst (λ (c : List Block). Moved c false (stack_entries ps ++ (body_entries b ++ entry s (plain_item p) ∷ []))) (sym (closed_none l (around ps) x)) (stays_plain s p ps b f g free)
ends_plain s p l e ps b f g true x h =
    ends_loops s (plain_item p) (at_plain s p) l refl (λ m ls k. subst (λ (y : Option ℕ). IsTrue (has_label m y)) (sym e) k) ps b f g x (ends_all (has_do l (around ps)) (has_do l (closed l (around ps))) x h)

moved_plain : (s : Statement) (p : PlainForm) (label : Option ℕ) → s.label ≡ label → (ps : List Part) (b : BodyForm) → StackFits ps → IsTrue (body_keeps_labels (labels (around ps)) b) → may_end (plain_item p) ≡ true
    → ends_badly (around ps) label (says (plain_item p)) ≡ false → Moved (left_by label (around ps)) false (stack_entries ps ++ (body_entries b ++ entry s (plain_item p) ∷ []))
moved_plain s p None e ps b f g m h =
    stays_plain s p ps b f g (subst (λ (y : Option ℕ). IsTrue (not (list_any (λ l. has_label l y) (labels (around ps))))) (sym e) (no_label (labels (around ps))))
moved_plain s p (Some l) e ps b f g m h =
    let well = subst (λ (x : Bool). (has_do l (around ps) && not (x && not (has_do l (closed l (around ps))))) ≡ false) m h in
    subst (λ (c : List Block). Moved c false (stack_entries ps ++ (body_entries b ++ entry s (plain_item p) ∷ []))) (left_well l (around ps) well) (ends_plain s p l e ps b f g (has_do l (around ps)) refl well)

-- the blocks and the body with a statement more, where no loop has its label
abbrev pub Next : Bool → Statement → Item → List Part → BodyForm → Bool → Type 0
Next behind_do s i ps b fresh = Moved (blocks_behind behind_do s i (around ps)) fresh (stack_entries ps ++ (body_entries b ++ entry s i ∷ []))

moved_else_if : (behind_do : Bool) (s : Statement) (d : CondTree) (ps : List Part) (b : BodyForm) → StackFits ps → IsTrue (body_keeps_labels (labels (around ps)) b) → IsTrue (is_free (labels (around ps)) s)
    → lacks_if (around ps) (else_if d) ≡ false → leaves_open (around ps) (else_if d) ≡ false → Next behind_do s (else_if d) ps b false
moved_else_if behind_do s d [] b f g k x y = absurd cc
moved_else_if behind_do s d (p_then a q e arms ∷ ps) b f g k x y =
    let arm : OpenArm = record { part = b; statement = s; condition = d } in
    let lines : (stack_entries ps ++ (body_entries a ++ entry q (block_if e) ∷ (arms_entries arms ++ (body_entries b ++ entry s (else_if d) ∷ [])))) ++ []
    ≡ (stack_entries ps ++ (body_entries a ++ entry q (block_if e) ∷ arms_entries arms)) ++ (body_entries b ++ entry s (else_if d) ∷ []) =
    append-nil (stack_entries ps ++ (body_entries a ++ entry q (block_if e) ∷ (arms_entries arms ++ (body_entries b ++ entry s (else_if d) ∷ [])))) ∙ simp append_assoc in
    record { ps = p_then a q e (arm ∷ arms) ∷ ps; b = nothing; blocks_are = sym (free_left s.label (around (p_then a q e (arm ∷ arms) ∷ ps)) k); fits = (f.0, (f.1.0, f.1.1, (f.1.2, g, k))); current_fits = refl; new = not_new; written = lines }
moved_else_if behind_do s d (p_else a q e arms t o ∷ ps) b f g k x y = absurd cc
moved_else_if behind_do s d (p_do a q m head v ∷ ps) b f g k x y = absurd cc

moved_else : (behind_do : Bool) (s : Statement) (ps : List Part) (b : BodyForm) → StackFits ps → IsTrue (body_keeps_labels (labels (around ps)) b) → IsTrue (is_free (labels (around ps)) s)
    → lacks_if (around ps) else_line ≡ false → leaves_open (around ps) else_line ≡ false → Next behind_do s else_line ps b false
moved_else behind_do s [] b f g k x y = absurd cc
moved_else behind_do s (p_then a q e arms ∷ ps) b f g k x y =
    let lines : (stack_entries ps ++ (body_entries a ++ entry q (block_if e) ∷ (arms_entries arms ++ (body_entries b ++ entry s else_line ∷ [])))) ++ []
    ≡ (stack_entries ps ++ (body_entries a ++ entry q (block_if e) ∷ arms_entries arms)) ++ (body_entries b ++ entry s else_line ∷ []) =
    append-nil (stack_entries ps ++ (body_entries a ++ entry q (block_if e) ∷ (arms_entries arms ++ (body_entries b ++ entry s else_line ∷ [])))) ∙ simp append_assoc in
    record { ps = p_else a q e arms b s ∷ ps; b = nothing; blocks_are = sym (free_left s.label (around (p_else a q e arms b s ∷ ps)) k); fits = (f.0, (f.1.0, f.1.1, f.1.2, g, k)); current_fits = refl; new = not_new; written = lines }
moved_else behind_do s (p_else a q e arms t o ∷ ps) b f g k x y = absurd cc
moved_else behind_do s (p_do a q m head v ∷ ps) b f g k x y = absurd cc

moved_end_if : (behind_do : Bool) (s : Statement) (ps : List Part) (b : BodyForm) → StackFits ps → IsTrue (body_keeps_labels (labels (around ps)) b) → IsTrue (is_free (labels (around ps)) s)
    → lacks_if (around ps) end_if ≡ false → leaves_open (around ps) end_if ≡ false → Next behind_do s end_if ps b false
moved_end_if behind_do s [] b f g k x y = absurd cc
moved_end_if behind_do s (p_then a q e arms ∷ ps) b f g k x y =
    let ls = labels (around ps) in
    let whole = whole_if q e arms b (ends_if s) in
    let lines : stack_entries ps ++ (body_entries a ++ part_entries whole)
    ≡ (stack_entries ps ++ (body_entries a ++ entry q (block_if e) ∷ arms_entries arms)) ++ (body_entries b ++ entry s end_if ∷ []) =
    ap (λ (z : List Entry). stack_entries ps ++ (body_entries a ++ z)) (if_entries q e arms b (ends_if s)) ∙ simp append_assoc in
    record { ps = ps; b = and_then a whole; blocks_are = sym (free_left s.label (around ps) k); fits = f.0; current_fits = true_and (body_keeps_labels ls a) (part_keeps_labels ls whole) f.1.0 (if_fits ls q e arms b (ends_if s) f.1.1 f.1.2 g k); new = not_new; written = lines }
moved_end_if behind_do s (p_else a q e arms t o ∷ ps) b f g k x y =
    let ls = labels (around ps) in
    let rest = has_else o b s in
    let whole = whole_if q e arms t rest in
    let fits = true_and (is_free ls o && body_keeps_labels ls b) (is_free ls s) (true_and (is_free ls o) (body_keeps_labels ls b) f.1.4 g) k in
    let lines : stack_entries ps ++ (body_entries a ++ part_entries whole)
    ≡ (stack_entries ps ++ (body_entries a ++ entry q (block_if e) ∷ (arms_entries arms ++ (body_entries t ++ entry o else_line ∷ [])))) ++ (body_entries b ++ entry s end_if ∷ []) =
    ap (λ (z : List Entry). stack_entries ps ++ (body_entries a ++ z)) (if_entries q e arms t rest) ∙ simp append_assoc in
    record { ps = ps; b = and_then a whole; blocks_are = sym (free_left s.label (around ps) k); fits = f.0; current_fits = true_and (body_keeps_labels ls a) (part_keeps_labels ls whole) f.1.0 (if_fits ls q e arms t rest f.1.1 f.1.2 f.1.3 fits); new = not_new; written = lines }
moved_end_if behind_do s (p_do a q m head v ∷ ps) b f g k x y = absurd cc

or_true : (a b : Bool) → IsTrue a → IsTrue (a || b)
or_true true b h = refl
or_true false b h = absurd cc

-- END DO in a DO without a label, where it has the label of no open loop
ends_bare : (s : Statement) (ps : List Part) (b : BodyForm) → StackFits ps → IsTrue (body_keeps_labels (labels (around ps)) b) → IsTrue (is_free (labels (around ps)) s) → is_in_bare_do (around ps) ≡ true
    → Moved (without_do (around ps)) false (stack_entries ps ++ (body_entries b ++ entry s ends_do ∷ []))
ends_bare s [] b f g k x = absurd cc
ends_bare s (p_then a q e arms ∷ ps) b f g k x = absurd cc
ends_bare s (p_else a q e arms t o ∷ ps) b f g k x = absurd cc
ends_bare s (p_do a q (Some l) head v ∷ ps) b f g k x = absurd cc
ends_bare s (p_do a q None head v ∷ ps) b f g k x =
    let ls = labels (around ps) in
    let d = loop q None head v b (at_end_do s) in
    let fits : IsTrue (loop_keeps_labels ls d) = true_and (is_free ls q && private_keeps_labels (None ∷ ls) v && body_keeps_labels (None ∷ ls) b) (ending_keeps_labels (None ∷ ls) None (at_end_do s))
    (true_and (is_free ls q && private_keeps_labels (None ∷ ls) v) (body_keeps_labels (None ∷ ls) b) (true_and (is_free ls q) (private_keeps_labels (None ∷ ls) v) f.1.1 f.1.2) g) k in
    let lines : stack_entries ps ++ (body_entries a ++ entry q (begins_do None head) ∷ (private_entries v ++ body_entries b ++ entry s ends_do ∷ []))
    ≡ (stack_entries ps ++ (body_entries a ++ entry q (begins_do None head) ∷ private_entries v)) ++ (body_entries b ++ entry s ends_do ∷ []) = simp append_assoc in
    record { ps = ps; b = and_then a (a_do d); blocks_are = refl; fits = f.0; current_fits = true_and (body_keeps_labels ls a) (part_keeps_labels ls (a_do d)) f.1.0 (inner_fits (around ps) d (no_label ls) fits); new = not_new; written = lines }

in_bare_do : (a b : Bool) → a ≡ false → (not a && not b) ≡ false → b ≡ true
in_bare_do a true h k = refl
in_bare_do true false h k = absurd cc
in_bare_do false false h k = absurd cc

moved_end_do : (s : Statement) (label : Option ℕ) → s.label ≡ label → (ps : List Part) (b : BodyForm) → StackFits ps → IsTrue (body_keeps_labels (labels (around ps)) b)
    → lacks_do (around ps) label ends_do ≡ false → ends_badly (around ps) label (says ends_do) ≡ false
    → Moved (if carries_open label (around ps) then left_by label (around ps) else without_do (around ps)) false (stack_entries ps ++ (body_entries b ++ entry s ends_do ∷ []))
moved_end_do s None e ps b f g x h =
    let free = subst (λ (y : Option ℕ). IsTrue (not (list_any (λ l. has_label l y) (labels (around ps))))) (sym e) (no_label (labels (around ps))) in
    ends_bare s ps b f g free (in_bare_do false (is_in_bare_do (around ps)) refl x)
moved_end_do s (Some l) e ps b f g x h =
    let c = around ps in
    let all = stack_entries ps ++ (body_entries b ++ entry s ends_do ∷ []) in
    let go : (t : Bool) → has_do l c ≡ t → Moved (if t then left_by_label l c else without_do c) false all = λ t. elim t as (λ t. has_do l c ≡ t → Moved (if t then left_by_label l c else without_do c) false all) [
      | true ↦ λ y.
          let only = ends_all (has_do l c) (has_do l (closed l c)) y h in
          let keeps = λ (m : Option ℕ) (ls : List (Option ℕ)) (k : IsTrue (has_label m (Some l))). or_true (has_label m s.label) (is_none m && is_free (m ∷ ls) s) (subst (λ (z : Option ℕ). IsTrue (has_label m z)) (sym e) k) in
          subst (λ (z : List Block). Moved z false all) (left_closed l c only) (ends_loops s ends_do (at_end_do s) l refl keeps ps b f g y only)
      | false ↦ λ y.
          let free = subst (λ (z : Option ℕ). IsTrue (not (list_any (λ m. has_label m z) (labels c)))) (sym e) (free_of l c y) in
          ends_bare s ps b f g free (in_bare_do (has_do l c) (is_in_bare_do c) y x)
    ] in
    go (has_do l c) refl

-- PRIVATE behind its DO
moved_private : (s : Statement) (names : List (List ℕ)) (ps : List Part) (b : BodyForm) → StackFits ps → IsTrue (is_free (labels (around ps)) s) → Fresh ps b → Next true s (keeps_private names) ps b false
moved_private s names ps b f k new =
    let below = new.below in
    let old = p_do new.before new.statement new.label new.head no_private in
    let fits : StackFits (old ∷ below) = subst StackFits new.is f in
    let free : IsTrue (is_free (labels (around (old ∷ below))) s) = subst (λ (qs : List Part). IsTrue (is_free (labels (around qs)) s)) new.is k in
    let lines : (stack_entries below ++ (body_entries new.before ++ entry new.statement (begins_do new.label new.head) ∷ (entry s (keeps_private names) ∷ []))) ++ []
    ≡ (stack_entries below ++ (body_entries new.before ++ entry new.statement (begins_do new.label new.head) ∷ [])) ++ ([] ++ entry s (keeps_private names) ∷ []) =
    append-nil (stack_entries below ++ (body_entries new.before ++ entry new.statement (begins_do new.label new.head) ∷ (entry s (keeps_private names) ∷ []))) ∙ simp append_assoc in
    let one : Next true s (keeps_private names) (old ∷ below) nothing false = record {
      ps = p_do new.before new.statement new.label new.head (private_list s names) ∷ below;
      b = nothing;
      blocks_are = sym (free_left s.label (around (p_do new.before new.statement new.label new.head (private_list s names) ∷ below)) free);
      fits = (fits.0, (fits.1.0, fits.1.1, free));
      current_fits = refl;
      new = not_new;
      written = lines;
    } in
    subst (λ (qs : List Part). Next true s (keeps_private names) qs b false) (sym new.is) (subst (λ (d : BodyForm). Next true s (keeps_private names) (old ∷ below) d false) (sym new.empty) one)

late_private : (fresh : Bool) → not fresh ≡ false → fresh ≡ true
late_private true e = refl
late_private false e = absurd cc

pub moved : (s : Statement) (i : Item) (fresh : Bool) (ps : List Part) (b : BodyForm) → StackFits ps → IsTrue (body_keeps_labels (labels (around ps)) b) → (fresh ≡ true → Fresh ps b) → rank i ≡ 4
    → lacks_if (around ps) i ≡ false → lacks_do (around ps) s.label i ≡ false → is_late_private fresh i ≡ false → leaves_open (around ps) i ≡ false → ends_badly (around ps) s.label (says i) ≡ false → Next fresh s i ps b (is_do i)
moved s (declares (Program p)) fresh ps b f g new r x o y z w = absurd cc
moved s (declares Implicit) fresh ps b f g new r x o y z w = absurd cc
moved s (declares (Integer ds)) fresh ps b f g new r x o y z w = absurd cc
moved s (declares (Dimension ds)) fresh ps b f g new r x o y z w = absurd cc
moved s (declares (Parameter values)) fresh ps b f g new r x o y z w = absurd cc
moved s (declares (Save names)) fresh ps b f g new r x o y z w = absurd cc
moved s (declares (Remark text)) fresh ps b f g new r x o y z w = absurd cc
moved s saves_all fresh ps b f g new r x o y z w = absurd cc
moved s (does t) fresh ps b f g new r x o y z w =
    let c = around ps in
    let all = stack_entries ps ++ (body_entries b ++ entry s (does t) ∷ []) in
    let go : (m : Bool) → may_end (does t) ≡ m → Moved (left_by s.label c) false all = λ m. elim m as (λ m. may_end (does t) ≡ m → Moved (left_by s.label c) false all) [
      | true ↦ λ e. moved_plain s (a_simple t) s.label refl ps b f g e w
      | false ↦ λ e.
          let free = free_label c s.label (does t) w e in
          subst (λ (x : List Block). Moved x false all) (sym (free_left s.label c free)) (stays_plain s (a_simple t) ps b f g free)
    ] in
    go (may_end (does t)) refl
moved s continues fresh ps b f g new r x o y z w = moved_plain s a_continue s.label refl ps b f g refl w
moved s (logical_if d t) fresh ps b f g new r x o y z w = moved_plain s (a_logical_if d t) s.label refl ps b f g refl w
moved s (block_if d) fresh ps b f g new r x o y z w =
    let free = free_label (around ps) s.label (block_if d) w refl in
    record { ps = p_then b s d [] ∷ ps; b = nothing; blocks_are = ap (λ (c : List Block). in_then 1 ∷ c) (sym (free_left s.label (around ps) free)); fits = (f, (g, free, tt)); current_fits = refl; new = not_new; written = append-nil (stack_entries ps ++ (body_entries b ++ entry s (block_if d) ∷ [])) }
moved s (else_if d) fresh ps b f g new r x o y z w = moved_else_if fresh s d ps b f g (free_label (around ps) s.label (else_if d) w refl) x z
moved s else_line fresh ps b f g new r x o y z w = moved_else fresh s ps b f g (free_label (around ps) s.label else_line w refl) x z
moved s end_if fresh ps b f g new r x o y z w = moved_end_if fresh s ps b f g (free_label (around ps) s.label end_if w refl) x z
moved s (begins_do l h) fresh ps b f g new r x o y z w =
    let free = free_label (around ps) s.label (begins_do l h) w refl in
    record {
      ps = p_do b s l h no_private ∷ ps;
      b = nothing;
      blocks_are = ap (λ (c : List Block). in_do (loop_of l h no_private) ∷ c) (sym (free_left s.label (around ps) free));
      fits = (f, (g, free, refl));
      current_fits = refl;
      new = λ e. record { before = b; statement = s; label = l; head = h; below = ps; is = refl; empty = refl };
      written = append-nil (stack_entries ps ++ (body_entries b ++ entry s (begins_do l h) ∷ []));
    }
moved s ends_do fresh ps b f g new r x o y z w = moved_end_do s s.label refl ps b f g o w
moved s (keeps_private names) fresh ps b f g new r x o y z w =
    let late = late_private fresh y in
    subst (λ (t : Bool). Next t s (keeps_private names) ps b false) (sym late) (moved_private s names ps b f (free_label (around ps) s.label (keeps_private names) w refl) (new late))
moved s ends_program fresh ps b f g new r x o y z w = absurd cc
