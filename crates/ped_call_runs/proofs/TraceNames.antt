-- New names along the trace of an expansion: each is given once, and the trace has all that are given.
use Rattle.std.proofs.Common.{◌≡◌, ℕ, zero, suc, ◌+◌, ℤ, List, [], ◌∷◌, ◌++◌, length, Bool, true, false, Option, Some, None, is_some, refl, sym, ap, ◌∙◌, subst, append_assoc, append-nil, if◌then◌else◌}
use Rattle.ped_base.specs.Lists.{is_among}
use Rattle.ped_tree.specs.Accesses.{listed}
use Rattle.ped_tree.specs.Numbering.{statement_count, statements_count}
use Rattle.ped_tree.specs.Tree.{ExprTree, StmtTree, StmtTrees, Assign, If, Do, Print, Read, Stop, Comment, no_stmts, more_stmts}
use Rattle.ped_steps.specs.ped_symbols.specs.Entries.{entry_of}
use Rattle.ped_steps.specs.ped_symbols.specs.Kinds.{kind_in}
use Rattle.ped_steps.specs.ped_symbols.specs.Values.{Values, fixed_value}
use Rattle.ped_calls.specs.ped_units.specs.Forms.{Called}
use Rattle.ped_calls.specs.ped_units.specs.Units.{ProgramUnit, ProgramUnits, unit_of, call_of}
use Rattle.ped_calls.specs.ped_units.specs.Refusals.{for_names}
use Rattle.ped_calls.specs.ped_units.specs.Expanding.{Given, numbered_name, free_from, free_name, with_new, Meanings, replaced, called_replaced, is_variable_name, Bound, standing, bound_by, bound_arguments, body_names, constants_of, with_formals, with_constants, Renamed, with_renamed, renamed, meanings_in, call_comment, Expanded, AllExpanded, expanded_or, expanded_in, all_expanded_in, unit_expanded, call_expanded}
use Rattle.ped_call_runs.specs.UnitRuns.{own, number_inside, sized, all_sized, call_size}
use Rattle.ped_call_runs.proofs.EachCalls.{OfCall, EachCall, AllCalls, UnitFits, FitsAt}
use Rattle.ped_call_runs.proofs.Traces.{Trace, value_traced, arguments_traced, locals_traced, CallTraced, traced_or, traced, all_traced, unit_traced, call_traced}
use Rattle.ped_call_runs.proofs.TraceNumbers.{none_first, one_less}
use Rattle.ped_call_runs.proofs.TraceCalls.{as_many}
use Rattle.ped_call_runs.proofs.OwnNames.{IsNoOwn}

-- the second names of pairs
abbrev pub seconds : List (List ℕ × List ℕ) → List (List ℕ)
seconds [] = []
seconds (p ∷ ps) = p.1 ∷ seconds ps

-- the second names are new: none is among these names, and none stands twice
abbrev pub AreNew : List (List ℕ) → List (List ℕ × List ℕ) → Type 0
AreNew taken [] = Unit {0}
AreNew taken (p ∷ ps) = (is_among p.1 taken ≡ false) × IsNoOwn p.1 × AreNew (taken ++ p.1 ∷ []) ps

-- each second name is the next new name
abbrev pub AreNext : List (List ℕ) → List (List ℕ × List ℕ) → Type 0
AreNext taken [] = Unit {0}
AreNext taken (p ∷ ps) = (p.1 ≡ free_name taken) × AreNext (taken ++ p.1 ∷ []) ps

-- from what is given to what is given then, the pairs have the new names
pub record AreGiven (taken behind : List (List ℕ)) (pairs : List (List ℕ × List ℕ)) : Type 0 where
  pub all : behind ≡ taken ++ seconds pairs
  pub next : AreNext taken pairs

seconds_joined : (ps qs : List (List ℕ × List ℕ)) → seconds (ps ++ qs) ≡ seconds ps ++ seconds qs
seconds_joined [] qs = refl
seconds_joined (p ∷ ps) qs = ap (λ (xs : List (List ℕ)). p.1 ∷ xs) (seconds_joined ps qs)

next_joined : (taken : List (List ℕ)) (ps qs : List (List ℕ × List ℕ)) → AreNext taken ps → AreNext (taken ++ seconds ps) qs → AreNext taken (ps ++ qs)
next_joined taken [] qs h k = subst (λ (xs : List (List ℕ)). AreNext xs qs) (append-nil taken) k
next_joined taken (p ∷ ps) qs h k = (h.0, next_joined (taken ++ p.1 ∷ []) ps qs h.1 (subst (λ (xs : List (List ℕ)). AreNext xs qs) (sym (append_assoc taken (p.1 ∷ []) (seconds ps))) k))

pub given_joined : (a b c : List (List ℕ)) (ps qs : List (List ℕ × List ℕ)) → AreGiven a b ps → AreGiven b c qs → AreGiven a c (ps ++ qs)
given_joined a b c ps qs h k = record {
  all = k.all ∙ ap (λ (xs : List (List ℕ)). xs ++ seconds qs) h.all ∙ append_assoc a (seconds ps) (seconds qs) ∙ ap (λ (xs : List (List ℕ)). a ++ xs) (sym (seconds_joined ps qs));
  next = next_joined a ps qs h.next (subst (λ (xs : List (List ℕ)). AreNext xs qs) h.all k.next);
}

-- a new name is none of a CALL's own
pub no_own_free : (tries : ℕ) (taken : List (List ℕ)) (n : ℕ) → IsNoOwn (free_from tries taken n)
no_own_free zero taken n = λ m x. refl
no_own_free (suc tries) taken n = go (is_among (numbered_name n) taken) (no_own_free tries taken (n + 1))
  where
    go : (t : Bool) → IsNoOwn (free_from tries taken (n + 1)) → IsNoOwn (if t then free_from tries taken (n + 1) else numbered_name n)
    go true more = more
    go false more = λ m x. refl

pub none_given : (a : List (List ℕ)) → AreGiven a a []
none_given a = record { all = sym (append-nil a); next = tt }

one_given : (x : List ℕ) (a : List (List ℕ)) → AreGiven a (a ++ free_name a ∷ []) ((x, free_name a) ∷ [])
one_given x a = record { all = refl; next = (refl, tt) }

-- arguments
pub arguments_given : (constants : Values) (n : ℕ) (xs : List (List ℕ)) (es : List ExprTree) → length es ≡ length xs → (j : ℕ) (g : Given)
    → AreGiven g.taken (bound_arguments constants es g).given.taken (arguments_traced constants n xs es j g).pairs
arguments_given constants n [] [] same j g = none_given g.taken
arguments_given constants n [] (e ∷ es) same j g = absurd (none_first (length es) same)
arguments_given constants n (x ∷ xs) [] same j g = absurd (none_first (length xs) (sym same))
arguments_given constants n (x ∷ xs) (e ∷ es) same j g = go (is_variable_name constants e) (fixed_value constants e) (arguments_given constants n xs es (one_less (length es) (length xs) same))
  where
    go : (u : Bool) (o : Option ℤ) → ((j : ℕ) (g : Given) → AreGiven g.taken (bound_arguments constants es g).given.taken (arguments_traced constants n xs es j g).pairs)
        → AreGiven g.taken (if u then standing e (bound_arguments constants es g) else bound_by o e g (bound_arguments constants es)).given.taken
        (if u then record (arguments_traced constants n xs es j g) { gaps = j ∷ (arguments_traced constants n xs es j g).gaps } else value_traced o n x j g (arguments_traced constants n xs es)).pairs
    go true o more = more j g
    go false (Some v) more = more j g
    go false None more = given_joined g.taken (g.taken ++ free_name g.taken ∷ []) (bound_arguments constants es (with_new g)).given.taken ((own n x, free_name g.taken) ∷ []) (arguments_traced constants n xs es (j + 1) (with_new g)).pairs (one_given (own n x) g.taken) (more (j + 1) (with_new g))

-- variables of the subroutine
pub locals_given : (n : ℕ) (u : ProgramUnit) (xs : List (List ℕ)) (r : Renamed) → AreGiven r.given.taken (renamed u xs r).given.taken (locals_traced n u xs r)
locals_given n u [] r = none_given r.given.taken
locals_given n u (x ∷ xs) r = go (is_some (entry_of r.meanings x)) (λ s. locals_given n u xs s)
  where
    go : (t : Bool) → ((s : Renamed) → AreGiven s.given.taken (renamed u xs s).given.taken (locals_traced n u xs s))
        → AreGiven r.given.taken (renamed u xs (if t then r else with_renamed x (kind_in (for_names u) x) r)).given.taken
        (if t then locals_traced n u xs r else (own n x, free_name r.given.taken) ∷ locals_traced n u xs (with_renamed x (kind_in (for_names u) x) r))
    go true more = more r
    go false more =
        given_joined r.given.taken (r.given.taken ++ free_name r.given.taken ∷ []) (renamed u xs (with_renamed x (kind_in (for_names u) x) r)).given.taken ((own n x, free_name r.given.taken) ∷ [])
        (locals_traced n u xs (with_renamed x (kind_in (for_names u) x) r)) (one_given (own n x) r.given.taken) (more (with_renamed x (kind_in (for_names u) x) r))

module _ (k : Meanings) (size : Called → ℕ) (inner : Called → Given → Expanded Given) (call : CallTraced) (fits : Called → Type 0) where
  abbrev pub CallsGive : Type 0
  CallsGive = (c : Called) → fits c → (n j : ℕ) (g : Given) → AreGiven g.taken (inner (called_replaced k c) g).state.taken (call c n j g).pairs

  assign_gives : CallsGive → (t : StmtTree) (n j : ℕ) (g : Given) (o : Option Called) → OfCall fits o → AreGiven g.taken (expanded_or k inner t g o).state.taken (traced_or call n j g o).pairs
  assign_gives calls t n j g None h = none_given g.taken
  assign_gives calls t n j g (Some c) h = calls c h n j g

  mutual
    pub gives : CallsGive → (t : StmtTree) (n j : ℕ) (g : Given) → EachCall fits t → AreGiven g.taken (expanded_in k inner t g).state.taken (traced k size inner call t n j g).pairs
    gives calls (Assign left right) n j g h = assign_gives calls (Assign (replaced k left) (replaced k right)) n j g (call_of left right) h
    gives calls (If c x y) n j g h =
        let made : AllExpanded Given = all_expanded_in k inner x g in
        given_joined g.taken made.state.taken (all_expanded_in k inner y made.state).state.taken (all_traced k size inner call x (n + 1) (j + 1) g).pairs
        (all_traced k size inner call y (n + 1 + all_sized size x) (j + 1 + statements_count made.statements) made.state).pairs
        (all_give calls x (n + 1) (j + 1) g h.0) (all_give calls y (n + 1 + all_sized size x) (j + 1 + statements_count made.statements) made.state h.1)
    gives calls (Do head body) n j g h = all_give calls body (n + 1) (j + 1) g h
    gives calls (Print items) n j g h = none_given g.taken
    gives calls (Read items) n j g h = none_given g.taken
    gives calls Stop n j g h = none_given g.taken
    gives calls (Comment text) n j g h = none_given g.taken

    pub all_give : CallsGive → (ts : StmtTrees) (n j : ℕ) (g : Given) → AllCalls fits ts → AreGiven g.taken (all_expanded_in k inner ts g).state.taken (all_traced k size inner call ts n j g).pairs
    all_give calls no_stmts n j g h = none_given g.taken
    all_give calls (more_stmts t rest) n j g h =
        let made : Expanded Given = expanded_in k inner t g in
        given_joined g.taken made.state.taken (all_expanded_in k inner rest made.state).state.taken (traced k size inner call t n j g).pairs
        (all_traced k size inner call rest (n + sized size t) (j + statement_count made.statement) made.state).pairs
        (gives calls t n j g h.0) (all_give calls rest (n + sized size t) (j + statement_count made.statement) made.state h.1)

module _ (us : ProgramUnits) where
  unit_gives : (depth : ℕ) → ((k : Meanings) (c : Called) → FitsAt us depth c → (n j : ℕ) (g : Given) → AreGiven g.taken (call_expanded depth us [] (called_replaced k c) g).state.taken (call_traced depth us [] k c n j g).pairs)
      → (constants : Values) (k : Meanings) (c : Called) (n j : ℕ) (g : Given) (o : Option ProgramUnit) → UnitFits (FitsAt us depth) c o
      → AreGiven g.taken (unit_expanded (call_expanded depth us []) constants (called_replaced k c) g o).state.taken (unit_traced depth us (call_traced depth us []) k constants c n j g o).pairs
  unit_gives depth deeper constants k c n j g None h = none_given g.taken
  unit_gives depth deeper constants k c n j g (Some v) h =
      let es : List ExprTree = listed (called_replaced k c).arguments in
      let b : Bound = bound_arguments constants es g in
      let start : Renamed = record { meanings = with_constants (with_formals [] v.formals b.meant) (constants_of v); given = b.given } in
      let r : Renamed = meanings_in v b in
      let first : ℕ = j + 1 + statement_count (call_comment (called_replaced k c)) in
      let made : ℕ = length b.assignments in
      let body : AllExpanded Given = all_expanded_in r.meanings (call_expanded depth us []) v.tree.body r.given in
      let inside : Trace = all_traced r.meanings (call_size depth us) (call_expanded depth us []) (call_traced depth us [] r.meanings) v.tree.body (number_inside c n) (first + made) r.given in
      given_joined g.taken b.given.taken body.state.taken (arguments_traced constants n v.formals es first g).pairs (locals_traced n v (body_names v) start ++ inside.pairs)
      (arguments_given constants n v.formals es (as_many k c.arguments ∙ h.0) first g)
      (given_joined b.given.taken r.given.taken body.state.taken (locals_traced n v (body_names v) start) inside.pairs
      (locals_given n v (body_names v) start)
      (all_give r.meanings (call_size depth us) (call_expanded depth us []) (call_traced depth us [] r.meanings) (FitsAt us depth) (deeper r.meanings) v.tree.body (number_inside c n) (first + made) r.given h.2))

  -- CALLs of any depth
  pub calls_give : (depth : ℕ) (constants : Values) (k : Meanings) (c : Called) → FitsAt us depth c → (n j : ℕ) (g : Given)
      → AreGiven g.taken (call_expanded depth us constants (called_replaced k c) g).state.taken (call_traced depth us constants k c n j g).pairs
  calls_give zero constants k c h n j g = none_given g.taken
  calls_give (suc depth) constants k c h n j g = unit_gives depth (calls_give depth []) constants k c n j g (unit_of us c.name) h
