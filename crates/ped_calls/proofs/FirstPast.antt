-- The first CALL of a main program by whose expansion a limit is passed.
use Rattle.std.proofs.Common.{◌≡◌, ◌≤◌, ◌<◌, ◌+◌, ◌-◌, ℕ, zero, suc, List, [], ◌∷◌, map, length, get_or, slice_get, Bool, true, false, Some, refl, sym, ap, subst, ◌∙◌, append-nil, below_more, arith}
use Rattle.std.specs.Prelude.{nat_lt}
use Rattle.std.proofs.lemmas.List.{length-map}
use Rattle.ped_tree.specs.Tree.{StmtTrees, ProgramTree}
use Rattle.ped_tree.specs.Numbering.{statements_count}
use Rattle.ped_tree.specs.Grammar.LimitNumbers.{most_statements}
use Rattle.ped_tree.specs.Grammar.Fits.{fits}
use Rattle.ped_tree.specs.Grammar.Refusal.{Refusal}
use Rattle.ped_links.specs.ped_symbols.specs.NameRefusals.{name_refusals, IsValid}
use Rattle.ped_links.specs.ped_symbols.specs.ped_refs.proofs.SizeLaws.Small.{small_program}
use Rattle.ped_links.specs.ped_units.specs.Units.{ProgramUnits}
use Rattle.ped_links.specs.ped_units.specs.Linking.{Placed, calls_of}
use Rattle.ped_links.specs.ped_units.specs.Expanding.{constants_of, main_call_expanded, nothing_given, main_expanded, with_statements, expansion}
use Rattle.ped_links.specs.Placing.{placed_call}
use Rattle.ped_links.specs.ped_units.specs.Verdicts.{calls_count, settled, partial, IsPast, IsWithin, IsFirstPast}
use Rattle.ped_calls.specs.Opening.{expanded_program, has_many, Judges, StartsWell}
use Rattle.ped_calls.specs.declared.opening.Judgement.{Judgement}
use Rattle.ped_links.specs.declared.placing.PlacedCall.{PlacedCall}
use Rattle.ped_calls.proofs.FirstCalls.{all_whole, all_placed}
use Rattle.ped_calls.proofs.Judged.{not_below, neither}
use Rattle.ped_calls.proofs.PlainExpanding.{all_same}
use Rattle.ped_calls.proofs.Settled.{settled_same, expanded_begins}

-- with all CALLs expanded a main program is settled
pub all_expanded : (us : ProgramUnits) → StartsWell us → settled (expansion us) ≡ expansion us
all_expanded us starts =
    settled_same (expansion us) (expanded_begins [] (length us.others) us (constants_of us.main) us.main.tree.body (nothing_given us) starts.begins)

-- with as many CALLs as there are the whole program is expanded
pub whole_partial : (us : ProgramUnits) (m : ℕ) → StartsWell us → calls_count us.main.tree.body ≤ m → partial us m ≡ expansion us
whole_partial us m starts le =
    ap (λ (ss : StmtTrees). settled (with_statements us (main_expanded us ss))) (all_whole m us.main.tree.body le) ∙ all_expanded us starts

-- without CALLs the main program stays
pub without_calls : (us : ProgramUnits) → calls_count us.main.tree.body ≡ 0 → expansion us ≡ us.main.tree
without_calls us none =
    ap (with_statements us) (all_same (main_call_expanded us) us.main.tree.body (nothing_given us) none)
    ∙ (λ i. record { decls = append-nil us.main.tree.decls i; body = us.main.tree.body })

-- where no limit is passed by all CALLs, the program with all of them expanded is valid
pub valid_whole : (us : ProgramUnits) (m : ℕ) → StartsWell us → calls_count us.main.tree.body ≤ m → (0 < m → IsValid (partial us m)) → IsValid (expansion us)
valid_whole us zero starts le v =
    let none : calls_count us.main.tree.body ≡ 0 = omega (arith, le) in
    subst IsValid (sym (without_calls us none)) (starts.valid none)
valid_whole us (suc n) starts le v = subst IsValid (whole_partial us (suc n) starts le) (v (omega arith))

-- one CALL more by which no limit is passed
pub within_more : (us : ProgramUnits) (most : ℕ) → IsWithin us most → ((r : Refusal) → IsPast us (most + 1) r → ⊥) → IsWithin us (most + 1)
within_more us most h k m r one le =
    below_more (λ (j : ℕ). (q : Refusal) → 1 ≤ j → IsPast us j q → ⊥) (most + 1) (λ j less q some. h j q some (omega (arith, less))) (λ q some. k q) m (omega (arith, le)) r one

-- before the first CALL
pub within_none : (us : ProgramUnits) → IsWithin us 0
within_none us m r one le = absurd (omega (arith, one, le))

-- a CALL at its place, by what the code keeps of it
pub record PlacedAt (ps : List Placed) (place : ℕ) (c : PlacedCall) : Type 0 where
  pub call : Placed
  pub is : slice_get ps place ≡ Some call
  pub same : placed_call call ≡ c

placed_at : (ps : List Placed) (place : ℕ) (c : PlacedCall) → place < length ps → c ≡ get_or (map placed_call ps) place c → PlacedAt ps place c
placed_at [] place c h e = absurd (omega (arith, h))
placed_at (p ∷ ps) zero c h e = record { call = p; is = refl; same = sym e }
placed_at (p ∷ ps) (suc n) c h e =
    let more = placed_at ps n c (omega (arith, h)) e in
    record { call = more.call; is = more.is; same = more.same }

-- the CALL at this place is the first by which a limit is passed
pub first_at : (us : ProgramUnits) (r : Refusal) (calls : List PlacedCall) (place : ℕ) (c : PlacedCall) → (IsValid (expansion us) → ⊥) → IsWithin us place → IsPast us (place + 1) r
    → calls ≡ map placed_call (calls_of us.main) → place < length calls → c ≡ get_or calls place c → IsFirstPast us r c.line
first_at us r calls place c invalid within past are below is =
    let few : place < length (calls_of us.main) = subst (λ (n : ℕ). place < n) (ap length are ∙ length-map (calls_of us.main) placed_call) below in
    let there = placed_at (calls_of us.main) place c few (is ∙ ap (λ (cs : List PlacedCall). get_or cs place c) are) in
    record {
      invalid = invalid;
      before = place;
      call = there.call;
      is_call = there.is;
      past = past;
      within = within;
      there = ap (λ (d : PlacedCall). d.line) there.same;
    }

-- where no limit is passed by any CALL, the program is valid
pub none_left : (us : ProgramUnits) (calls : List PlacedCall) (place : ℕ) → StartsWell us → calls ≡ map placed_call (calls_of us.main) → length calls ≤ place
    → (0 < place → IsValid (partial us place)) → IsValid (expansion us)
none_left us calls place starts are le v =
    let counted : length calls ≡ calls_count us.main.tree.body = ap length are ∙ length-map (calls_of us.main) placed_call ∙ all_placed [] _ us.main.tree.body in
    valid_whole us place starts (omega (arith, counted, le)) v

-- where too many statements come of expanding all CALLs, the program isn't valid
pub many_invalid : (us : ProgramUnits) → StartsWell us → has_many us us.main.tree.body 0 ≡ true → IsValid (expansion us) → ⊥
many_invalid us starts many v =
    let t = expanded_program us us.main.tree.body in
    let fitting : fits t ≡ true = subst (λ (x : ProgramTree). fits x ≡ true) (sym (all_expanded us starts)) v.fits in
    let few = (small_program t fitting).few_statements in
    let none = neither (nat_lt most_statements (statements_count t.body + 0)) (fits t) (not_below most_statements (statements_count t.body + 0) (omega (arith, few))) fitting in
    let no : ◌≡◌ {A = Bool} true false = sym many ∙ none in
    cc

-- where names are refused, the program isn't valid
pub names_invalid : (us : ProgramUnits) → StartsWell us → (name_refusals [] (expanded_program us us.main.tree.body) ≡ [] → ⊥) → IsValid (expansion us) → ⊥
names_invalid us starts refused v = refused (subst (λ (x : ProgramTree). name_refusals [] x ≡ []) (sym (all_expanded us starts)) v.names)

-- what expanding all CALLs comes to
pub whole_judged : (us : ProgramUnits) (ss : StmtTrees) (j : Judgement) → ss ≡ us.main.tree.body → ((later : ℕ) → statements_count ss + later ≡ statements_count us.main.tree.body → Judges us ss later j) → Judges us us.main.tree.body 0 j
whole_judged us ss j is h =
    let none : statements_count ss + 0 ≡ statements_count ss = omega arith in
    subst (λ (ts : StmtTrees). Judges us ts 0 j) is (h 0 (none ∙ ap statements_count is))
