-- The DOs that a further round leaves, on the way.
use Rattle.std.proofs.Common.{◌≡◌, inl, inr, ℕ, ◌+◌, ◌-◌, ◌≤◌, ◌<◌, List, [], ◌∷◌, ◌++◌, map, filter, length, true, false, cond, refl, sym, subst, ap, ◌∙◌, arith, append-nil}
use Rattle.std.specs.List.{AllByRecursion, range_with_len}
use Rattle.std.proofs.lemmas.List.{map-id}
use Rattle.std.proofs.lemmas.List.Elements.{All-from_recursion}
use Rattle.std.proofs.lemmas.List.FromFn.{filter_of_map_range_with_len_more}
use Rattle.ped_script.specs.declared.items.Command.{Command}
use Rattle.ped_script.specs.declared.items.Command.TheVariants.{Parallel}
use Rattle.ped_rules.specs.ped_flow.specs.ped_tree.specs.Tree.{ProgramTree}
use Rattle.ped_rules.specs.ped_steps.specs.CodeCauses.{cause_of, IsShort}
use Rattle.ped_rules.specs.ped_steps.specs.declared.causes.Refused.{Refused}
use Rattle.ped_auto.specs.SerialLoops.{is_serial_loop, count_of}
use Rattle.ped_auto.specs.Editing.{Editing, IsEditing}
use Rattle.ped_auto.specs.Strategy.{AreLeft}
use Rattle.ped_auto.specs.CodeReports.{causes_of}
use Rattle.ped_auto.specs.CodeStages.{TellsCause}
use Rattle.ped_auto.specs.CodeReports.{AreShort}

-- the DOs that aren't PARALLEL DOs before the statement with this number
abbrev pub loops_before : ProgramTree → ℕ → List ℕ
loops_before t number = filter (is_serial_loop t) (range_with_len 1 (number - 1))

-- a DO with its cause, which can be printed
abbrev pub IsCause : {S : Type 0} → Editing S → S → ℕ × Refused → Type 0
IsCause e s l = e.Refuses s (Parallel l.0) (cause_of l.1) × IsShort l.1

-- these are the DOs before the statement with this number, and that is at most one behind the last
pub record AreLeftSoFar {S : Type 0} (e : Editing S) (s : S) (number : ℕ) (left : List (ℕ × Refused)) : Type 0 where
  pub loops : (t : ProgramTree) → e.Reads s t → map (λ l. l.0) left ≡ loops_before t number
  pub within : (t : ProgramTree) → e.Reads s t → number ≤ count_of t + 1
  pub causes : AllByRecursion (IsCause e s) left

pub none_left : {S : Type 0} (e : Editing S) (s : S) → AreLeftSoFar e s 1 []
none_left e s = record {
  loops = λ t reads. refl;
  within = λ t reads. omega arith;
  causes = tt;
}

-- the DOs before the next statement
loops_more : (t : ProgramTree) (number : ℕ) → 1 ≤ number → loops_before t (number + 1) ≡ loops_before t number ++ cond (is_serial_loop t number) (number ∷ []) []
loops_more t number first =
    let next : 1 + (number - 1) ≡ number = omega arith in
    let same : number + 1 - 1 ≡ number - 1 + 1 = omega arith in
    ap (λ n. filter (is_serial_loop t) (range_with_len 1 n)) same
    ∙ ap (filter (is_serial_loop t)) (sym (map-id (range_with_len 1 (number - 1 + 1))))
    ∙ filter_of_map_range_with_len_more (is_serial_loop t) (λ n. n) 1 (number - 1) number next
    ∙ ap (λ ns. filter (is_serial_loop t) ns ++ cond (is_serial_loop t number) (number ∷ []) []) (map-id (range_with_len 1 (number - 1)))

-- a statement that isn't such a DO is passed
pub left_passed : {S : Type 0} (e : Editing S) (s : S) (number : ℕ) (left : List (ℕ × Refused)) → IsEditing e → 1 ≤ number → (t : ProgramTree) → e.Reads s t → number ≤ count_of t → is_serial_loop t number ≡ false
    → AreLeftSoFar e s number left → AreLeftSoFar e s (number + 1) left
left_passed e s number left laws first t reads within other h = record {
  loops = λ u known.
      let same = laws.one_program s t u reads known in
      let none : is_serial_loop u number ≡ false = subst (λ v. is_serial_loop v number ≡ false) same other in
      h.loops u known ∙ sym (append_none u number) ∙ ap (λ b. loops_before u number ++ cond b (number ∷ []) []) (sym none) ∙ sym (loops_more u number first);
  within = λ u known. let same = laws.one_program s t u reads known in let w : number ≤ count_of u = subst (λ v. number ≤ count_of v) same within in omega arith;
  causes = h.causes;
} where
  append_none : (u : ProgramTree) (number : ℕ) → loops_before u number ++ [] ≡ loops_before u number
  append_none u number = append-nil (loops_before u number)

more_causes : {S : Type 0} (e : Editing S) (s : S) (left : List (ℕ × Refused)) (l : ℕ × Refused) → AllByRecursion (IsCause e s) left → IsCause e s l → AllByRecursion (IsCause e s) (left ++ l ∷ [])
more_causes e s [] l h k = (k, tt)
more_causes e s (x ∷ xs) l h k = (h.0, more_causes e s xs l h.1 k)

numbers_more : (left : List (ℕ × Refused)) (l : ℕ × Refused) → map (λ l. l.0) (left ++ l ∷ []) ≡ map (λ l. l.0) left ++ l.0 ∷ []
numbers_more [] l = refl
numbers_more (x ∷ xs) l = ap (λ ns. x.0 ∷ ns) (numbers_more xs l)

-- a DO that is left is told with its cause
pub left_told : {S : Type 0} (e : Editing S) (s : S) (number : ℕ) (left : List (ℕ × Refused)) (why : Refused) → IsEditing e → 1 ≤ number → (t : ProgramTree) → e.Reads s t → number ≤ count_of t → is_serial_loop t number ≡ true
    → e.Refuses s (Parallel number) (cause_of why) → IsShort why → AreLeftSoFar e s number left → AreLeftSoFar e s (number + 1) (left ++ (number, why) ∷ [])
left_told e s number left why laws first t reads within serial refuses short h = record {
  loops = λ u known.
      let same = laws.one_program s t u reads known in
      let one : is_serial_loop u number ≡ true = subst (λ v. is_serial_loop v number ≡ true) same serial in
      numbers_more left (number, why) ∙ ap (λ ns. ns ++ number ∷ []) (h.loops u known) ∙ ap (λ b. loops_before u number ++ cond b (number ∷ []) []) (sym one) ∙ sym (loops_more u number first);
  within = λ u known. let same = laws.one_program s t u reads known in let w : number ≤ count_of u = subst (λ v. number ≤ count_of v) same within in omega arith;
  causes = more_causes e s left (number, why) h.causes (refuses, short);
}

-- the causes as the definitions have them
told_causes : {S : Type 0} (e : Editing S) (s : S) (left : List (ℕ × Refused)) → AllByRecursion (IsCause e s) left → AllByRecursion (λ l. e.Refuses s (Parallel l.0) l.1) (causes_of left)
told_causes e s [] h = tt
told_causes e s (x ∷ xs) h = (h.0.0, told_causes e s xs h.1)

told_numbers : (left : List (ℕ × Refused)) → map (λ l. l.0) (causes_of left) ≡ map (λ l. l.0) left
told_numbers [] = refl
told_numbers (x ∷ xs) = ap (λ ns. x.0 ∷ ns) (told_numbers xs)

-- behind the last statement they are all that are left
pub all_left : {S : Type 0} (e : Editing S) (s : S) (number : ℕ) (left : List (ℕ × Refused)) → (t : ProgramTree) → e.Reads s t → count_of t < number → AreLeftSoFar e s number left → AreLeft e s (causes_of left)
all_left e s number left t reads past h =
    let within : number ≤ count_of t + 1 = h.within t reads in
    let all : number - 1 ≡ count_of t = omega arith in
    record {
      program = t;
      reads = reads;
      loops = told_numbers left ∙ h.loops t reads ∙ ap (λ n. filter (is_serial_loop t) (range_with_len 1 n)) all;
      causes = told_causes e s left h.causes;
    }

short_causes : {S : Type 0} (e : Editing S) (s : S) (left : List (ℕ × Refused)) → AllByRecursion (IsCause e s) left → AllByRecursion (λ l. IsShort l.1) left
short_causes e s [] h = tt
short_causes e s (x ∷ xs) h = (h.0.1, short_causes e s xs h.1)

pub all_short : {S : Type 0} (e : Editing S) (s : S) (number : ℕ) (left : List (ℕ × Refused)) → AreLeftSoFar e s number left → AreShort left
all_short e s number left h = All-from_recursion (λ l. IsShort l.1) left (short_causes e s left h.causes)

-- a further visit tells the cause of a DO where nothing was accepted before nor is at it
pub left_visited : {S : Type 0} (e : Editing S) (s next : S) (number : ℕ) (first accepted more : List Command) (left told : List (ℕ × Refused)) → IsEditing e → 1 ≤ number
    → (t : ProgramTree) → e.Reads s t → number ≤ count_of t → is_serial_loop t number ≡ true
    → length first ≤ length accepted → (length accepted ≡ length first → AreLeftSoFar e s number left) → TellsCause e number s accepted left next more told
    → length more ≡ length first → AreLeftSoFar e next (number + 1) told
left_visited e s next number first accepted more left told laws from_one t reads within serial behind so_far (inl h) same = absurd (let taken = h.0 in omega arith)
left_visited {S} e s next number first accepted more left told laws from_one t reads within serial behind so_far (inr h) same =
    let none : length accepted ≡ length first = ap length (sym h.4) ∙ same in
    let here = left_told e s number left h.0 laws from_one t reads within serial h.1 h.2 (so_far none) in
    subst (λ (xs : List (ℕ × Refused)). AreLeftSoFar e next (number + 1) xs) (sym h.5)
    (subst (λ (x : S). AreLeftSoFar e x (number + 1) (left ++ (number, h.0) ∷ [])) (sym h.3) here)

-- the same in other words for the state, the commands and the causes
pub left_in_words : {S : Type 0} (e : Editing S) (number : ℕ) (first : List Command) (s x : S) (accepted commands : List Command) (left causes : List (ℕ × Refused)) → x ≡ s → commands ≡ accepted → causes ≡ left
    → (length accepted ≡ length first → AreLeftSoFar e s number left) → length commands ≡ length first → AreLeftSoFar e x number causes
left_in_words {S} e number first s x accepted commands left causes states same told so_far none =
    subst (λ (xs : List (ℕ × Refused)). AreLeftSoFar e x number xs) (sym told)
    (subst (λ (y : S). AreLeftSoFar e y number left) (sym states) (so_far (ap length (sym same) ∙ none)))
