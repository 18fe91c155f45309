-- Statements that say the same but for simple statements nest alike.
use Rattle.std.proofs.Common.{◌≡◌, ℕ, List, [], ◌∷◌, ◌++◌, map, Option, refl, sym, ap, ◌∙◌}
use Rattle.std.specs.Prelude.{◌&&◌, not}
use Rattle.std.specs.List.{list_any}
use Rattle.ped_tree.specs.Tree.{CondTree, Head, StmtTree, StmtTrees}
use Rattle.ped_tree.specs.Grammar.Statement.{Statement}
use Rattle.ped_tree.specs.Grammar.Items.{Item, declares, saves_all, does, logical_if, block_if, else_if, else_line, end_if, begins_do, ends_do, keeps_private, ends_program, Reading, says, outside_profile, no_form, Entry}
use Rattle.ped_tree.specs.Grammar.BlockForms.{PlainForm, a_simple, a_logical_if, PrivateForm, no_private, private_list, BodyForm, nothing, and_then, PartForm, a_plain, an_if, a_do, RestForm, ends_if, has_else, has_else_if, LoopForm, loop, EndingForm, at_plain, at_end_do, with_inner, plain_item, entry, private_entries, body_entries, part_entries, rest_entries, loop_entries, ending_entries, loop_label, has_label, is_free, private_keeps_labels, body_keeps_labels, part_keeps_labels, rest_keeps_labels, loop_keeps_labels, ending_keeps_labels}
use Rattle.ped_tree.specs.Grammar.ProgramForms.{DeclForm, a_declaration, a_save_of_all, ProgramForm, decl_entry, program_entries}

-- two items say the same, or both are simple statements, or both are logical IFs with one condition
pub data SaysAlike (i j : Item) : Type 0 where
  same : i ≡ j → SaysAlike i j
  both_do : (s t : StmtTree) → i ≡ does s → j ≡ does t → SaysAlike i j
  both_if : (e : CondTree) (s t : StmtTrees) → i ≡ logical_if e s → j ≡ logical_if e t → SaysAlike i j

-- two readings do
abbrev pub ReadsAlike : Reading → Reading → Type 0
ReadsAlike (says i) r = (j : Item) × (r ≡ says j) × SaysAlike i j
ReadsAlike outside_profile r = r ≡ outside_profile
ReadsAlike no_form r = r ≡ no_form

-- statements do, one by one
abbrev pub AreAlike : List Entry → List Entry → Type 0
AreAlike [] [] = Unit {0}
AreAlike (e ∷ es) (f ∷ fs) = (f.statement ≡ e.statement) × ReadsAlike e.reading f.reading × AreAlike es fs
AreAlike [] (f ∷ fs) = ⊥
AreAlike (e ∷ es) [] = ⊥

-- two parts
pub record AlikeParts (xs ys fs : List Entry) : Type 0 where
  pub front : List Entry
  pub back : List Entry
  pub whole : fs ≡ front ++ back
  pub first : AreAlike xs front
  pub second : AreAlike ys back

pub alike_parts : (xs ys fs : List Entry) → AreAlike (xs ++ ys) fs → AlikeParts xs ys fs
alike_parts [] ys fs h = record { front = []; back = fs; whole = refl; first = tt; second = h }
alike_parts (x ∷ xs) ys [] h = absurd h
alike_parts (x ∷ xs) ys (f ∷ fs) h =
    let more = alike_parts xs ys fs h.2 in
    record { front = f ∷ more.front; back = more.back; whole = λ i. f ∷ more.whole i; first = (h.0, h.1, more.first); second = more.second }

pub alike_none : (fs : List Entry) → AreAlike [] fs → fs ≡ []
alike_none [] h = refl
alike_none (f ∷ fs) h = absurd h

-- one statement
pub record AlikeOne (s : Statement) (i : Item) (fs : List Entry) : Type 0 where
  pub item : Item
  pub is : fs ≡ entry s item ∷ []
  pub alike : SaysAlike i item

pub alike_one : (s : Statement) (i : Item) (fs : List Entry) → AreAlike (entry s i ∷ []) fs → AlikeOne s i fs
alike_one s i [] h = absurd h
alike_one s i (f ∷ fs) h =
    let none = alike_none fs h.2 in
    let here = h.1 in
    record { item = here.0; is = λ k. record { statement = h.0 k; reading = here.1 k } ∷ none k; alike = here.2 }

-- one statement before others
pub record AlikeFirst (s : Statement) (i : Item) (es fs : List Entry) : Type 0 where
  pub item : Item
  pub rest : List Entry
  pub is : fs ≡ entry s item ∷ rest
  pub alike : SaysAlike i item
  pub others : AreAlike es rest

pub alike_first : (s : Statement) (i : Item) (es fs : List Entry) → AreAlike (entry s i ∷ es) fs → AlikeFirst s i es fs
alike_first s i es [] h = absurd h
alike_first s i es (f ∷ fs) h =
    let here = h.1 in
    record { item = here.0; rest = fs; is = λ k. record { statement = h.0 k; reading = here.1 k } ∷ fs; alike = here.2; others = h.2 }

-- what a plain statement gives way to
pub record PlainExchanged (p : PlainForm) (j : Item) : Type 0 where
  pub form : PlainForm
  pub says : plain_item form ≡ j

pub plain_exchanged : (p : PlainForm) (j : Item) → SaysAlike (plain_item p) j → PlainExchanged p j
plain_exchanged p j (same e) = record { form = p; says = e }
plain_exchanged p j (both_do s t e f) = record { form = a_simple t; says = sym f }
plain_exchanged p j (both_if c s t e f) = record { form = a_logical_if c t; says = sym f }

-- items that are neither stay
unlike_block_if : (c : CondTree) (j : Item) → SaysAlike (block_if c) j → j ≡ block_if c
unlike_block_if c j (same e) = sym e
unlike_block_if c j (both_do s t e f) = absurd cc
unlike_block_if c j (both_if d s t e f) = absurd cc

unlike_else_if : (c : CondTree) (j : Item) → SaysAlike (else_if c) j → j ≡ else_if c
unlike_else_if c j (same e) = sym e
unlike_else_if c j (both_do s t e f) = absurd cc
unlike_else_if c j (both_if d s t e f) = absurd cc

unlike_else : (j : Item) → SaysAlike else_line j → j ≡ else_line
unlike_else j (same e) = sym e
unlike_else j (both_do s t e f) = absurd cc
unlike_else j (both_if d s t e f) = absurd cc

unlike_end_if : (j : Item) → SaysAlike end_if j → j ≡ end_if
unlike_end_if j (same e) = sym e
unlike_end_if j (both_do s t e f) = absurd cc
unlike_end_if j (both_if d s t e f) = absurd cc

unlike_do : (l : Option ℕ) (h : Head) (j : Item) → SaysAlike (begins_do l h) j → j ≡ begins_do l h
unlike_do l h j (same e) = sym e
unlike_do l h j (both_do s t e f) = absurd cc
unlike_do l h j (both_if d s t e f) = absurd cc

unlike_end_do : (j : Item) → SaysAlike ends_do j → j ≡ ends_do
unlike_end_do j (same e) = sym e
unlike_end_do j (both_do s t e f) = absurd cc
unlike_end_do j (both_if d s t e f) = absurd cc

unlike_private : (names : List (List ℕ)) (j : Item) → SaysAlike (keeps_private names) j → j ≡ keeps_private names
unlike_private names j (same e) = sym e
unlike_private names j (both_do s t e f) = absurd cc
unlike_private names j (both_if d s t e f) = absurd cc

unlike_end : (j : Item) → SaysAlike ends_program j → j ≡ ends_program
unlike_end j (same e) = sym e
unlike_end j (both_do s t e f) = absurd cc
unlike_end j (both_if d s t e f) = absurd cc

unlike_declared : (d : _) (j : Item) → SaysAlike (declares d) j → j ≡ declares d
unlike_declared d j (same e) = sym e
unlike_declared d j (both_do s t e f) = absurd cc
unlike_declared d j (both_if c s t e f) = absurd cc

unlike_save : (j : Item) → SaysAlike saves_all j → j ≡ saves_all
unlike_save j (same e) = sym e
unlike_save j (both_do s t e f) = absurd cc
unlike_save j (both_if c s t e f) = absurd cc

-- PRIVATE stays
private_exchanged : (p : PrivateForm) (fs : List Entry) → AreAlike (private_entries p) fs → fs ≡ private_entries p
private_exchanged no_private fs h = alike_none fs h
private_exchanged (private_list s names) fs h =
    let one = alike_one s (keeps_private names) fs h in
    one.is ∙ ap (λ (i : Item). entry s i ∷ []) (unlike_private names one.item one.alike)

pub record BodyExchanged (b : BodyForm) (fs : List Entry) : Type 0 where
  pub form : BodyForm
  pub written : body_entries form ≡ fs
  pub labelled : (labels : List (Option ℕ)) → body_keeps_labels labels form ≡ body_keeps_labels labels b

pub record PartExchanged (p : PartForm) (fs : List Entry) : Type 0 where
  pub form : PartForm
  pub written : part_entries form ≡ fs
  pub labelled : (labels : List (Option ℕ)) → part_keeps_labels labels form ≡ part_keeps_labels labels p

pub record RestExchanged (r : RestForm) (fs : List Entry) : Type 0 where
  pub form : RestForm
  pub written : rest_entries form ≡ fs
  pub labelled : (labels : List (Option ℕ)) → rest_keeps_labels labels form ≡ rest_keeps_labels labels r

pub record LoopExchanged (d : LoopForm) (fs : List Entry) : Type 0 where
  pub form : LoopForm
  pub written : loop_entries form ≡ fs
  pub label : loop_label form ≡ loop_label d
  pub labelled : (labels : List (Option ℕ)) → loop_keeps_labels labels form ≡ loop_keeps_labels labels d

pub record EndingExchanged (e : EndingForm) (fs : List Entry) : Type 0 where
  pub form : EndingForm
  pub written : ending_entries form ≡ fs
  pub labelled : (labels : List (Option ℕ)) (l : Option ℕ) → ending_keeps_labels labels l form ≡ ending_keeps_labels labels l e

mutual
  pub body_exchanged : (b : BodyForm) (fs : List Entry) → AreAlike (body_entries b) fs → BodyExchanged b fs
  body_exchanged nothing fs h = record { form = nothing; written = sym (alike_none fs h); labelled = λ labels. refl }
  body_exchanged (and_then b p) fs h =
      let parts = alike_parts (body_entries b) (part_entries p) fs h in
      let c = body_exchanged b parts.front parts.first in
      let q = part_exchanged p parts.back parts.second in
      record {
        form = and_then c.form q.form;
        written = (λ i. c.written i ++ q.written i) ∙ sym parts.whole;
        labelled = λ labels. λ i. c.labelled labels i && q.labelled labels i;
      }

  pub part_exchanged : (p : PartForm) (fs : List Entry) → AreAlike (part_entries p) fs → PartExchanged p fs
  part_exchanged (a_plain s p) fs h =
      let one = alike_one s (plain_item p) fs h in
      let q = plain_exchanged p one.item one.alike in
      record { form = a_plain s q.form; written = ap (λ (i : Item). entry s i ∷ []) q.says ∙ sym one.is; labelled = λ labels. refl }
  part_exchanged (an_if s c b r) fs h =
      let first = alike_first s (block_if c) (body_entries b ++ rest_entries r) fs h in
      let parts = alike_parts (body_entries b) (rest_entries r) first.rest first.others in
      let d = body_exchanged b parts.front parts.first in
      let q = rest_exchanged r parts.back parts.second in
      let is = unlike_block_if c first.item first.alike in
      record {
        form = an_if s c d.form q.form;
        written = (λ i. entry s (sym is i) ∷ ((λ i. d.written i ++ q.written i) ∙ sym parts.whole) i) ∙ sym first.is;
        labelled = λ labels. λ i. is_free labels s && d.labelled labels i && q.labelled labels i;
      }
  part_exchanged (a_do d) fs h =
      let e = loop_exchanged d fs h in
      record {
        form = a_do e.form;
        written = e.written;
        labelled = λ labels. λ i. not (list_any (λ l. has_label l (e.label i)) labels) && e.labelled labels i;
      }

  pub rest_exchanged : (r : RestForm) (fs : List Entry) → AreAlike (rest_entries r) fs → RestExchanged r fs
  rest_exchanged (ends_if s) fs h =
      let one = alike_one s end_if fs h in
      record { form = ends_if s; written = ap (λ (i : Item). entry s i ∷ []) (sym (unlike_end_if one.item one.alike)) ∙ sym one.is; labelled = λ labels. refl }
  rest_exchanged (has_else s b e) fs h =
      let first = alike_first s else_line (body_entries b ++ entry e end_if ∷ []) fs h in
      let parts = alike_parts (body_entries b) (entry e end_if ∷ []) first.rest first.others in
      let d = body_exchanged b parts.front parts.first in
      let one = alike_one e end_if parts.back parts.second in
      let is = unlike_else first.item first.alike in
      let ending = unlike_end_if one.item one.alike in
      record {
        form = has_else s d.form e;
        written = (λ i. entry s (sym is i) ∷ ((λ i. d.written i ++ entry e (sym ending i) ∷ []) ∙ (λ i. parts.front ++ sym one.is i) ∙ sym parts.whole) i) ∙ sym first.is;
        labelled = λ labels. λ i. is_free labels s && d.labelled labels i && is_free labels e;
      }
  rest_exchanged (has_else_if s c b r) fs h =
      let first = alike_first s (else_if c) (body_entries b ++ rest_entries r) fs h in
      let parts = alike_parts (body_entries b) (rest_entries r) first.rest first.others in
      let d = body_exchanged b parts.front parts.first in
      let q = rest_exchanged r parts.back parts.second in
      let is = unlike_else_if c first.item first.alike in
      record {
        form = has_else_if s c d.form q.form;
        written = (λ i. entry s (sym is i) ∷ ((λ i. d.written i ++ q.written i) ∙ sym parts.whole) i) ∙ sym first.is;
        labelled = λ labels. λ i. is_free labels s && d.labelled labels i && q.labelled labels i;
      }

  pub loop_exchanged : (d : LoopForm) (fs : List Entry) → AreAlike (loop_entries d) fs → LoopExchanged d fs
  loop_exchanged (loop s l h p b e) fs k =
      let first = alike_first s (begins_do l h) (private_entries p ++ body_entries b ++ ending_entries e) fs k in
      let outer = alike_parts (private_entries p ++ body_entries b) (ending_entries e) first.rest first.others in
      let inner = alike_parts (private_entries p) (body_entries b) outer.front outer.first in
      let own = private_exchanged p inner.front inner.first in
      let c = body_exchanged b inner.back inner.second in
      let f = ending_exchanged e outer.back outer.second in
      let is = unlike_do l h first.item first.alike in
      record {
        form = loop s l h p c.form f.form;
        written = (λ i. entry s (sym is i) ∷ ((λ i. ((λ i. sym own i ++ c.written i) ∙ sym inner.whole) i ++ f.written i) ∙ sym outer.whole) i) ∙ sym first.is;
        label = refl;
        labelled = λ labels. λ i. is_free labels s && private_keeps_labels (l ∷ labels) p && c.labelled (l ∷ labels) i && f.labelled (l ∷ labels) l i;
      }

  pub ending_exchanged : (e : EndingForm) (fs : List Entry) → AreAlike (ending_entries e) fs → EndingExchanged e fs
  ending_exchanged (at_plain s p) fs h =
      let one = alike_one s (plain_item p) fs h in
      let q = plain_exchanged p one.item one.alike in
      record { form = at_plain s q.form; written = ap (λ (i : Item). entry s i ∷ []) q.says ∙ sym one.is; labelled = λ labels l. refl }
  ending_exchanged (at_end_do s) fs h =
      let one = alike_one s ends_do fs h in
      record { form = at_end_do s; written = ap (λ (i : Item). entry s i ∷ []) (sym (unlike_end_do one.item one.alike)) ∙ sym one.is; labelled = λ labels l. refl }
  ending_exchanged (with_inner d) fs h =
      let e = loop_exchanged d fs h in
      record {
        form = with_inner e.form;
        written = e.written;
        labelled = λ labels l. λ i. has_label l (e.label i) && e.labelled labels i;
      }

-- declarations stay
decls_exchanged : (ds : List DeclForm) (fs : List Entry) → AreAlike (map decl_entry ds) fs → fs ≡ map decl_entry ds
decls_exchanged [] fs h = alike_none fs h
decls_exchanged (a_declaration s d ∷ ds) fs h =
    let first = alike_first s (declares d) (map decl_entry ds) fs h in
    let is = unlike_declared d first.item first.alike in
    first.is ∙ (λ i. entry s (is i) ∷ decls_exchanged ds first.rest first.others i)
decls_exchanged (a_save_of_all s ∷ ds) fs h =
    let first = alike_first s saves_all (map decl_entry ds) fs h in
    let is = unlike_save first.item first.alike in
    first.is ∙ (λ i. entry s (is i) ∷ decls_exchanged ds first.rest first.others i)

pub record FormExchanged (f : ProgramForm) (fs : List Entry) : Type 0 where
  pub form : ProgramForm
  pub written : program_entries form ≡ fs
  pub labelled : body_keeps_labels [] form.body ≡ body_keeps_labels [] f.body

-- statements that say alike have a form where the others have one
pub form_exchanged : (f : ProgramForm) (fs : List Entry) → AreAlike (program_entries f) fs → FormExchanged f fs
form_exchanged f fs h =
    let outer = alike_parts (map decl_entry f.declarations ++ body_entries f.body) (entry f.ending ends_program ∷ []) fs h in
    let inner = alike_parts (map decl_entry f.declarations) (body_entries f.body) outer.front outer.first in
    let ds = decls_exchanged f.declarations inner.front inner.first in
    let b = body_exchanged f.body inner.back inner.second in
    let one = alike_one f.ending ends_program outer.back outer.second in
    let is = unlike_end one.item one.alike in
    record {
      form = record f { body = b.form };
      written = (λ i. ((λ i. sym ds i ++ b.written i) ∙ sym inner.whole) i ++ ((λ i. entry f.ending (sym is i) ∷ []) ∙ sym one.is) i) ∙ sym outer.whole;
      labelled = b.labelled [];
    }
