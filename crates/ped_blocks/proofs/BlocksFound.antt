-- Statements at which nothing is refused have a form, and so a tree.
use Rattle.std.proofs.Common.{◌≡◌, ℕ, List, [], ◌∷◌, ◌++◌, map, Bool, true, false, cond, Option, Some, None, refl, sym, ap, subst, ◌∙◌, arith, append_assoc, ◌⊎◌, inl, inr}
use Rattle.std.specs.Prelude.{IsTrue, ◌||◌, not, nat_le, max}
use Rattle.std.proofs.lemmas.List.{map_push}
use Rattle.ped_tree.specs.Tree.{Program, Implicit, Integer, Dimension, Parameter, Save, Remark, ProgramTree}
use Rattle.ped_base.specs.Lists.{has_some}
use Rattle.ped_tree.specs.Grammar.Refusal.{Refusal, Finding, refused_if, earlier, earliest, first_of, is_before}
use Rattle.ped_tree.specs.Grammar.Statement.{Statement, Statements}
use Rattle.ped_tree.specs.Grammar.Items.{Item, declares, saves_all, does, continues, logical_if, block_if, else_if, else_line, end_if, begins_do, ends_do, keeps_private, ends_program, Reading, says, outside_profile, no_form, Entry}
use Rattle.ped_tree.specs.Grammar.Occurrences.{saved_names}
use Rattle.ped_tree.specs.Grammar.Contexts.{Block, Context, at_start, rank, is_do, left_by, blocks_behind, behind_item, behind_reading, behind, behind_all}
use Rattle.ped_tree.specs.Grammar.BlockForms.{BodyForm, nothing, entry, body_entries, body_keeps_labels}
use Rattle.ped_tree.specs.Grammar.ProgramForms.{DeclForm, a_declaration, a_save_of_all, ProgramForm, decl_entry, program_entries}
use Rattle.ped_tree.specs.Grammar.ProgramRefusals.{where_it_says, is_left_out, is_out_of_order, lacks_if, lacks_do, is_late_private, saves_again, is_misplaced, is_behind_end, breaks_syntax, leaves_open, ends_badly, at_statement, at_statements, at_end, program_refusals}
use Rattle.ped_tree.specs.Grammar.Grouping.{statements_of}
use Rattle.ped_tree.specs.Grammar.Reading.{IsCutInto, first_program_refusal, Refuses, in_statements, Reads}
use Rattle.ped_blocks.specs.Machine.{nothing_built, take_entries, built_program}
use Rattle.ped_blocks.proofs.BlocksNest.{form_built}
use Rattle.ped_blocks.proofs.BlocksMoved.{Part, around, labels, stack_entries, StackFits, Fresh, moved}

pub none_stands : (test : Bool) (r : Refusal) (line : ℕ) → refused_if test r line ≡ [] → test ≡ false
unfolding refused_if
none_stands true r line e = absurd cc
none_stands false r line e = refl

pub left_empty : {A : Type 0} (xs ys : List A) → xs ++ ys ≡ [] → xs ≡ []
left_empty [] ys e = refl
left_empty (x ∷ xs) ys e = absurd cc

pub right_empty : {A : Type 0} (xs ys : List A) → xs ++ ys ≡ [] → ys ≡ []
right_empty [] ys e = e
right_empty (x ∷ xs) ys e = absurd cc

found_stays : (f : Finding) (fs : List Finding) → earliest (Some f) fs ≡ None → ⊥
unfolding earlier
found_stays f [] e = absurd cc
found_stays f (g ∷ gs) e =
    let go : (x : Bool) → earliest (cond x (Some g) (Some f)) gs ≡ None → ⊥ = λ x. elim x as (λ x. earliest (cond x (Some g) (Some f)) gs ≡ None → ⊥) [ true ↦ found_stays g gs | false ↦ found_stays f gs ] in
    go (is_before g f) e

pub first_none : (fs : List Finding) → first_of fs ≡ None → fs ≡ []
unfolding earlier
first_none [] e = refl
first_none (f ∷ fs) e = absurd (found_stays f fs e)

-- nothing is refused at a statement; these tests say that it nests
record IsAccepted (c : Context) (e : Entry) : Type 0 where
  placed : breaks_syntax c e.statement.label e.reading ≡ false
  inside : is_left_out e.reading ≡ false
  closes : where_it_says (leaves_open c.blocks) e.reading ≡ false
  ends_well : ends_badly c.blocks e.statement.label e.reading ≡ false

accepted : (saved : List (List ℕ)) (c : Context) (e : Entry) (rest : List Entry) → at_statement saved c e rest ≡ [] → IsAccepted c e
accepted saved c e rest h =
    let h8 = left_empty _ _ h in
    let h7 = left_empty _ _ h8 in
    let h6 = left_empty _ _ h7 in
    let h5 = left_empty _ _ h6 in
    let h4 = left_empty _ _ h5 in
    let h3 = left_empty _ _ h4 in
    let h2 = left_empty _ _ h3 in
    record {
      placed = none_stands _ _ _ (right_empty _ _ h2);
      inside = none_stands _ _ _ (right_empty _ _ h3);
      closes = none_stands _ _ _ (right_empty _ _ h4);
      ends_well = none_stands _ _ _ (right_empty _ _ h5);
    }

or_left : (a b : Bool) → (a || b) ≡ false → a ≡ false
or_left true b h = absurd cc
or_left false b h = refl

or_right : (a b : Bool) → (a || b) ≡ false → b ≡ false
or_right true b h = absurd cc
or_right false b h = h

-- what a statement with this label says can stand at its place
record IsPlaced (c : Context) (label : Option ℕ) (i : Item) : Type 0 where
  before_end : is_behind_end c ≡ false
  ordered : is_out_of_order c.phase (rank i) ≡ false
  has_if : lacks_if c.blocks i ≡ false
  has_do : lacks_do c.blocks label i ≡ false
  in_time : is_late_private c.behind_do i ≡ false

is_placed : (c : Context) (label : Option ℕ) (i : Item) → breaks_syntax c label (says i) ≡ false → IsPlaced c label i
is_placed c label i h =
    let misplaced = or_right (is_behind_end c || false) (is_misplaced c label i) h in
    let four = or_left (is_out_of_order c.phase (rank i) || lacks_if c.blocks i || is_late_private c.behind_do i || saves_again c i) (lacks_do c.blocks label i) misplaced in
    let three = or_left (is_out_of_order c.phase (rank i) || lacks_if c.blocks i || is_late_private c.behind_do i) (saves_again c i) four in
    let two = or_left (is_out_of_order c.phase (rank i) || lacks_if c.blocks i) (is_late_private c.behind_do i) three in
    record {
      before_end = or_left (is_behind_end c) false (or_left (is_behind_end c || false) (is_misplaced c label i) h);
      ordered = or_left (is_out_of_order c.phase (rank i)) (lacks_if c.blocks i) two;
      has_if = or_right (is_out_of_order c.phase (rank i)) (lacks_if c.blocks i) two;
      has_do = or_right (is_out_of_order c.phase (rank i) || lacks_if c.blocks i || is_late_private c.behind_do i || saves_again c i) (lacks_do c.blocks label i) misplaced;
      in_time = or_right (is_out_of_order c.phase (rank i) || lacks_if c.blocks i) (is_late_private c.behind_do i) three;
    }

-- where nothing is refused, the text has a form
says_some : (c : Context) (label : Option ℕ) (r : Reading) → breaks_syntax c label r ≡ false → is_left_out r ≡ false → (i : Item) × (r ≡ says i)
says_some c label (says i) h k = (i, refl)
says_some c label outside_profile h k = absurd cc
says_some c label no_form h k = absurd (let y = or_right (is_behind_end c) true (or_left (is_behind_end c || true) false h) in cc)

-- nothing stands behind END
behind_end : (saved : List (List ℕ)) (c : Context) (rest : List Entry) → is_behind_end c ≡ true → at_statements saved c rest ≡ [] → rest ≡ []
behind_end saved c [] e h = refl
behind_end saved c (x ∷ rest) e h =
    let ok = accepted saved c x rest (left_empty _ _ h) in
    let what = says_some c x.statement.label x.reading ok.placed ok.inside in
    let placed = is_placed c x.statement.label what.0 (subst (λ (r : Reading). breaks_syntax c x.statement.label r ≡ false) what.1 ok.placed) in
    absurd (let y : ◌≡◌ {A = Bool} true false = sym e ∙ placed.before_end in cc)

-- the executable statements from here on, with END
abbrev Rest : List Part → BodyForm → List Entry → Type 0
Rest ps b rest = (d : BodyForm) × (s : Statement) × (body_entries d ++ entry s ends_program ∷ [] ≡ stack_entries ps ++ (body_entries b ++ rest)) × IsTrue (body_keeps_labels [] d)

at_end_statement : (ps : List Part) (b : BodyForm) (e : Entry) (s : Statement) (rest : List Entry) → has_some (around ps) ≡ false → IsTrue (body_keeps_labels (labels (around ps)) b) → e ≡ entry s ends_program → rest ≡ [] → Rest ps b (e ∷ rest)
at_end_statement [] b e s rest h g is none = (b, s, (λ i. body_entries b ++ sym is i ∷ sym none i), g)
at_end_statement (p ∷ ps) b e s rest h g is none = absurd cc

ends_late : (n : ℕ) → nat_le 5 (max n 5) ≡ true
ends_late n = grind arith

next_written : (xs ys zs ws rest : List Entry) (e : Entry) → xs ++ ys ≡ zs ++ (ws ++ e ∷ []) → xs ++ (ys ++ rest) ≡ zs ++ (ws ++ e ∷ rest)
next_written xs ys zs ws rest e h =
    sym (append_assoc xs ys rest) ∙ ap (λ (es : List Entry). es ++ rest) h ∙ append_assoc zs (ws ++ e ∷ []) rest ∙ ap (λ (es : List Entry). zs ++ es) (append_assoc ws (e ∷ []) rest)

rest_along : (ps qs : List Part) (b d : BodyForm) (rest more : List Entry) → Rest qs d rest → stack_entries qs ++ (body_entries d ++ rest) ≡ stack_entries ps ++ (body_entries b ++ more) → Rest ps b more
rest_along ps qs b d rest more q e = (q.0, q.1, q.2 ∙ e, q.3)

-- an executable statement, or END
body_next : (saved : List (List ℕ)) (e : Entry) (rest : List Entry) (c : Context) (ps : List Part) (b : BodyForm) (i : Item) → e.reading ≡ says i → (rank i ≡ 4) ⊎ (i ≡ ends_program)
    → around ps ≡ c.blocks → StackFits ps → IsTrue (body_keeps_labels (labels (around ps)) b) → (c.behind_do ≡ true → Fresh ps b) → IsAccepted c e → at_statements saved (behind c e) rest ≡ []
    → ((qs : List Part) (d : BodyForm) → around qs ≡ blocks_behind c.behind_do e.statement i c.blocks → StackFits qs → IsTrue (body_keeps_labels (labels (around qs)) d) → (is_do i ≡ true → Fresh qs d) → rank i ≡ 4 → Rest qs d rest)
    → Rest ps b (e ∷ rest)
body_next saved e rest c ps b i reading (inl r) blocks f g new ok h again =
    let s = e.statement in
    let is : e ≡ entry s i = λ k. record { statement = s; reading = reading k } in
    let placed = is_placed c s.label i (subst (λ (r : Reading). breaks_syntax c s.label r ≡ false) reading ok.placed) in
    let closes = subst (λ (r : Reading). where_it_says (leaves_open c.blocks) r ≡ false) reading ok.closes in
    let ends_well = subst (λ (r : Reading). ends_badly c.blocks s.label r ≡ false) reading ok.ends_well in
    let m = moved s i c.behind_do ps b f g new r (subst (λ (x : List Block). lacks_if x i ≡ false) (sym blocks) placed.has_if) (subst (λ (x : List Block). lacks_do x s.label i ≡ false) (sym blocks) placed.has_do) placed.in_time
    (subst (λ (x : List Block). leaves_open x i ≡ false) (sym blocks) closes) (subst (λ (x : List Block). ends_badly x s.label (says i) ≡ false) (sym blocks) ends_well) in
    let lines = next_written (stack_entries m.ps) (body_entries m.b) (stack_entries ps) (body_entries b) rest (entry s i) m.written ∙ ap (λ (x : Entry). stack_entries ps ++ (body_entries b ++ x ∷ rest)) (sym is) in
    rest_along ps m.ps b m.b rest (e ∷ rest) (again m.ps m.b (m.blocks_are ∙ ap (blocks_behind c.behind_do s i) blocks) m.fits m.current_fits m.new r) lines
body_next saved e rest c ps b i reading (inr z) blocks f g new ok h again =
    let s = e.statement in
    let says_end : e.reading ≡ says ends_program = reading ∙ ap says z in
    let is : e ≡ entry s ends_program = λ k. record { statement = s; reading = says_end k } in
    let closes = subst (λ (r : Reading). where_it_says (leaves_open c.blocks) r ≡ false) says_end ok.closes in
    let late : is_behind_end (behind c e) ≡ true = subst (λ (r : Reading). is_behind_end (behind_reading c s r) ≡ true) (sym says_end) (ends_late c.phase) in
    at_end_statement ps b e s rest (subst (λ (x : List Block). has_some x ≡ false) (sym blocks) closes) g is (behind_end saved (behind c e) rest late h)

-- no label leaves a block where none is open
nothing_left : (label : Option ℕ) → left_by label [] ≡ []
nothing_left None = refl
nothing_left (Some l) = refl

-- a declaration, an executable statement, or END
data Kind (s : Statement) (i : Item) : Type 0 where
  declared : (f : DeclForm) → decl_entry f ≡ entry s i → nat_le (rank i) 3 ≡ true → is_out_of_order 4 (rank i) ≡ true → is_do i ≡ false → ((behind_do : Bool) (q : Statement) → blocks_behind behind_do q i [] ≡ []) → Kind s i
  executed : (rank i ≡ 4) ⊎ (i ≡ ends_program) → Kind s i

kind : (s : Statement) (i : Item) → Kind s i
kind s (declares (Program x)) = declared (a_declaration s (Program x)) refl refl refl refl (λ behind_do q. nothing_left q.label)
kind s (declares Implicit) = declared (a_declaration s Implicit) refl refl refl refl (λ behind_do q. nothing_left q.label)
kind s (declares (Integer ds)) = declared (a_declaration s (Integer ds)) refl refl refl refl (λ behind_do q. nothing_left q.label)
kind s (declares (Dimension ds)) = declared (a_declaration s (Dimension ds)) refl refl refl refl (λ behind_do q. nothing_left q.label)
kind s (declares (Parameter values)) = declared (a_declaration s (Parameter values)) refl refl refl refl (λ behind_do q. nothing_left q.label)
kind s (declares (Save names)) = declared (a_declaration s (Save names)) refl refl refl refl (λ behind_do q. nothing_left q.label)
kind s (declares (Remark text)) = declared (a_declaration s (Remark text)) refl refl refl refl (λ behind_do q. nothing_left q.label)
kind s saves_all = declared (a_save_of_all s) refl refl refl refl (λ behind_do q. nothing_left q.label)
kind s (does t) = executed (inl refl)
kind s continues = executed (inl refl)
kind s (logical_if c t) = executed (inl refl)
kind s (block_if c) = executed (inl refl)
kind s (else_if c) = executed (inl refl)
kind s else_line = executed (inl refl)
kind s end_if = executed (inl refl)
kind s (begins_do l h) = executed (inl refl)
kind s ends_do = executed (inl refl)
kind s (keeps_private names) = executed (inl refl)
kind s ends_program = executed (inr refl)

phase_of : (c : Context) (label : Option ℕ) (i : Item) → nat_le c.phase 4 ≡ true → rank i ≡ 4 → max c.phase (rank i) ≡ 4
phase_of c label i h r = grind arith

-- the executable statements up to END
body_found : (saved : List (List ℕ)) (rest : List Entry) (c : Context) (ps : List Part) (b : BodyForm) → around ps ≡ c.blocks → StackFits ps → IsTrue (body_keeps_labels (labels (around ps)) b) → (c.behind_do ≡ true → Fresh ps b) → c.phase ≡ 4
    → at_statements saved c rest ≡ [] → is_behind_end (behind_all c rest) ≡ true → Rest ps b rest
body_found saved [] c ps b blocks f g new phase h k = absurd (let y : nat_le 5 4 ≡ true = subst (λ (n : ℕ). nat_le 5 n ≡ true) phase k in cc)
body_found saved (e ∷ rest) c ps b blocks f g new phase h k =
    let s = e.statement in
    let ok = accepted saved c e rest (left_empty _ _ h) in
    let h1 : at_statements saved (behind c e) rest ≡ [] = right_empty (at_statement saved c e rest) _ h in
    let what = says_some c s.label e.reading ok.placed ok.inside in
    let i = what.0 in
    let placed = is_placed c s.label i (subst (λ (r : Reading). breaks_syntax c s.label r ≡ false) what.1 ok.placed) in
    let h2 : at_statements saved (behind_item c s i) rest ≡ [] = subst (λ (r : Reading). at_statements saved (behind_reading c s r) rest ≡ []) what.1 h1 in
    let k2 : is_behind_end (behind_all (behind_item c s i) rest) ≡ true = subst (λ (r : Reading). is_behind_end (behind_all (behind_reading c s r) rest) ≡ true) what.1 k in
    let again = λ (qs : List Part) (d : BodyForm) (t : around qs ≡ blocks_behind c.behind_do s i c.blocks) (u : StackFits qs) (v : IsTrue (body_keeps_labels (labels (around qs)) d)) (w : is_do i ≡ true → Fresh qs d) (r : rank i ≡ 4).
    body_found saved rest (behind_item c s i) qs d t u v w ((λ j. max (phase j) (r j)) ∙ refl) h2 k2 in
    let go : Kind s i → Rest ps b (e ∷ rest) = λ z. elim z as (λ z. Rest ps b (e ∷ rest)) [
      | declared form is early late quiet keeps ↦ absurd (let y : ◌≡◌ {A = Bool} true false = sym late ∙ ap (λ (n : ℕ). is_out_of_order n (rank i)) (sym phase) ∙ placed.ordered in cc)
      | executed x ↦ body_next saved e rest c ps b i what.1 x blocks f g new ok h1 again
    ] in
    go (kind s i)

-- a form of the statements
abbrev pub HasForm : List Entry → Type 0
HasForm es = (f : ProgramForm) × (program_entries f ≡ es) × IsTrue (body_keeps_labels [] f.body)

with_body : (ds : List DeclForm) (rest : List Entry) → Rest [] nothing rest → HasForm (map decl_entry ds ++ rest)
with_body ds rest q =
    let form : ProgramForm = record { declarations = ds; body = q.0; ending = q.1 } in
    (form, append_assoc (map decl_entry ds) (body_entries q.0) (entry q.1 ends_program ∷ []) ∙ ap (λ (es : List Entry). map decl_entry ds ++ es) q.2, q.3)

early_max : (m n : ℕ) → nat_le m 3 ≡ true → nat_le n 3 ≡ true → nat_le (max m n) 3 ≡ true
early_max m n h k = grind arith

early_four : (n : ℕ) → nat_le n 3 ≡ true → nat_le n 4 ≡ true
early_four n h = grind arith

early_late : (n : ℕ) → nat_le n 3 ≡ true → nat_le 5 n ≡ true → ⊥
early_late n h k = absurd (grind arith)

first_phase : (m n : ℕ) → nat_le m 3 ≡ true → n ≡ 4 → max m n ≡ 4
first_phase m n h e = grind arith

true_false : (b : Bool) → b ≡ false → b ≡ true → ⊥
true_false b h k = absurd cc

-- the declarations and all that follows
decls_found : (saved : List (List ℕ)) (rest : List Entry) (c : Context) (ds : List DeclForm) → c.blocks ≡ [] → c.behind_do ≡ false → nat_le c.phase 3 ≡ true
    → at_statements saved c rest ≡ [] → is_behind_end (behind_all c rest) ≡ true → HasForm (map decl_entry ds ++ rest)
decls_found saved [] c ds blocks quiet phase h k = absurd (early_late c.phase phase k)
decls_found saved (e ∷ rest) c ds blocks quiet phase h k =
    let s = e.statement in
    let ok = accepted saved c e rest (left_empty _ _ h) in
    let h1 : at_statements saved (behind c e) rest ≡ [] = right_empty (at_statement saved c e rest) _ h in
    let what = says_some c s.label e.reading ok.placed ok.inside in
    let i = what.0 in
    let is : e ≡ entry s i = λ j. record { statement = s; reading = what.1 j } in
    let h2 : at_statements saved (behind_item c s i) rest ≡ [] = subst (λ (r : Reading). at_statements saved (behind_reading c s r) rest ≡ []) what.1 h1 in
    let k2 : is_behind_end (behind_all (behind_item c s i) rest) ≡ true = subst (λ (r : Reading). is_behind_end (behind_all (behind_reading c s r) rest) ≡ true) what.1 k in
    let new : c.behind_do ≡ true → Fresh [] nothing = λ y. absurd (true_false c.behind_do quiet y) in
    let again = λ (qs : List Part) (d : BodyForm) (t : around qs ≡ blocks_behind c.behind_do s i c.blocks) (u : StackFits qs) (v : IsTrue (body_keeps_labels (labels (around qs)) d)) (w : is_do i ≡ true → Fresh qs d) (r : rank i ≡ 4).
    body_found saved rest (behind_item c s i) qs d t u v w (first_phase c.phase (rank i) phase r) h2 k2 in
    let go : Kind s i → HasForm (map decl_entry ds ++ e ∷ rest) = λ z. elim z as (λ z. HasForm (map decl_entry ds ++ e ∷ rest)) [
      | declared form same early late no_do keeps ↦
          let more = decls_found saved rest (behind_item c s i) (ds ++ form ∷ []) (ap (blocks_behind c.behind_do s i) blocks ∙ keeps c.behind_do s) no_do (early_max c.phase (rank i) phase early) h2 k2 in
          let lines : map decl_entry (ds ++ form ∷ []) ++ rest ≡ map decl_entry ds ++ e ∷ rest =
          ap (λ (es : List Entry). es ++ rest) (map_push decl_entry ds form) ∙ append_assoc (map decl_entry ds) (decl_entry form ∷ []) rest ∙ ap (λ (x : Entry). map decl_entry ds ++ x ∷ rest) (same ∙ sym is) in
          subst HasForm lines more
      | executed x ↦ with_body ds (e ∷ rest) (body_next saved e rest c [] nothing i what.1 x (sym blocks) tt refl new ok h1 again)
    ] in
    go (kind s i)

not_false : (b : Bool) → not b ≡ false → b ≡ true
not_false true e = refl
not_false false e = absurd cc

pub form_found : (all : Statements) (entries : List Entry) → first_of (program_refusals all entries) ≡ None → HasForm entries
form_found all entries h =
    let none = first_none (program_refusals all entries) h in
    let before : at_statements (saved_names entries) at_start entries ≡ [] = left_empty _ (at_end (behind_all at_start entries) all) none in
    let ending : at_end (behind_all at_start entries) all ≡ [] = right_empty (at_statements (saved_names entries) at_start entries) _ none in
    let last : is_behind_end (behind_all at_start entries) ≡ true = not_false _ (none_stands _ _ _ (left_empty _ _ ending)) in
    decls_found (saved_names entries) entries at_start [] refl refl refl before last

-- what is built of the statements of a text is its tree, where nothing is refused
pub built_is_read : (text : List ℕ) (entries : List Entry) → IsCutInto text entries → first_program_refusal text entries ≡ None → Reads text (built_program (take_entries (saved_names entries) nothing_built entries))
built_is_read text entries cut none =
    let q = form_found (statements_of text) entries none in
    let saved = saved_names entries in
    record {
      entries = entries;
      cut = cut;
      accepted = none;
      form = q.0;
      written = q.1;
      labelled = q.2;
      nested = sym (form_built saved q.0 q.2) ∙ ap (λ (es : List Entry). built_program (take_entries saved nothing_built es)) q.1;
    }

-- statements that are known have a tree or a refusal
pub read_or_refused : (text : List ℕ) (entries : List Entry) → IsCutInto text entries → ((t : ProgramTree) × Reads text t) ⊎ ((a : Finding) × Refuses text a)
read_or_refused text entries cut =
    let go : (r : Option Finding) → first_program_refusal text entries ≡ r → ((t : ProgramTree) × Reads text t) ⊎ ((a : Finding) × Refuses text a) = λ r. elim r as (λ r. first_program_refusal text entries ≡ r → ((t : ProgramTree) × Reads text t) ⊎ ((a : Finding) × Refuses text a)) [
      | None ↦ λ e. inl (built_program (take_entries (saved_names entries) nothing_built entries), built_is_read text entries cut e)
      | Some a ↦ λ e. inr (a, in_statements entries cut e)
    ] in
    go (first_program_refusal text entries) refl
