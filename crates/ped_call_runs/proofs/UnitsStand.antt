-- Program units that were read and are right stand alike with their expansion, where that is valid.
use Rattle.std.proofs.Common.{◌≡◌, ℕ, zero, suc, ◌+◌, ℤ, List, [], ◌∷◌, ◌++◌, length, not, is_some, Bool, true, false, ◌||◌, eqb, eqb-true, Option, Some, None, refl, sym, ap, ◌∙◌, subst, inl, inr, arith}
use Rattle.std.specs.List.{flat_map}
use Rattle.std.proofs.lemmas.Bool.{and_parts, both_ways}
use Rattle.std.proofs.lemmas.Grind.{flat_map-append}
use Rattle.ped_base.specs.Lists.{is_among}
use Rattle.ped_tree.proofs.NameLaws.Collected.{among_append}
use Rattle.ped_tree.specs.Accesses.{listed, constant_names}
use Rattle.ped_tree.specs.Constants.ConstantExpressions.{constant_value}
use Rattle.ped_tree.specs.Constants.NamedConstants.{value_named}
use Rattle.ped_tree.specs.Grammar.Fits.{decls_fit, begins_with_statement, at_body}
use Rattle.ped_tree.specs.NamesIn.{stmts_names, saved_in}
use Rattle.ped_tree.specs.Numbering.{statements_count}
use Rattle.ped_tree.specs.Tree.{ExprTree, Var, StmtTree, StmtTrees, Assign, If, Do, Print, Read, Stop, Comment, no_stmts, more_stmts, DeclTree, ProgramTree}
use Rattle.ped_steps.specs.ped_symbols.specs.Declarations.{program_name}
use Rattle.ped_steps.specs.ped_symbols.specs.Kinds.{names_of}
use Rattle.ped_steps.specs.ped_symbols.specs.NameRefusals.{has_twice, IsValid}
use Rattle.ped_steps.specs.ped_symbols.specs.Values.{Values}
use Rattle.ped_steps.specs.ped_symbols.proofs.RightUseLaws.Occurring.{occurs_first}
use Rattle.ped_steps.specs.ped_symbols.proofs.RightUseLaws.Whole.{others_unvalued}
use Rattle.ped_calls.specs.ped_units.specs.Forms.{Called}
use Rattle.ped_calls.specs.ped_units.specs.Units.{ProgramUnit, ProgramUnits, all_units, unit_of, call_of}
use Rattle.ped_calls.specs.ped_units.specs.Refusals.{save_of_formals, for_names}
use Rattle.ped_calls.specs.ped_units.specs.Linking.{IsIn, Arguments, IsLinked}
use Rattle.ped_calls.specs.ped_units.specs.Verdicts.{ReadsLinkedUnits}
use Rattle.ped_calls.specs.ped_units.specs.Expanding.{Given, is_variable_name, constants_of, call_expanded, nothing_given, expansion}
use Rattle.ped_steps.specs.ped_eval.specs.Outcomes.{setting_of, live_names}
use Rattle.ped_steps.specs.ped_eval.specs.Scopes.{Setting}
use Rattle.ped_steps.specs.Runs.Renumbering.{renumbered}
use Rattle.ped_steps.specs.ped_laws.proofs.RunLaws.Turning.{once_among}
use Rattle.ped_steps.proofs.RunLaws.DeclaredArrays.{no_saved}
use Rattle.ped_call_runs.specs.UnitRuns.{own, main_instance, all_sized, call_size}
use Rattle.ped_call_runs.proofs.EachNames.{each_behind, each_of, of_each}
use Rattle.ped_call_runs.proofs.FollowingStores.{is_bound}
use Rattle.ped_call_runs.proofs.FollowingNames.{by_name}
use Rattle.ped_call_runs.proofs.FollowingUnits.{IsLiveAlike, StandAlike}
use Rattle.ped_call_runs.proofs.RisingNumbers.{number_past}
use Rattle.ped_call_runs.proofs.LeftOut.{left_out_gaps, expanded_back}
use Rattle.ped_call_runs.proofs.SwappedNames.{swapped, AreApart, swapped_twice}
use Rattle.ped_call_runs.proofs.GivenKept.{live_names_alike}
use Rattle.ped_call_runs.proofs.GivenMore.{gives_same}
use Rattle.ped_call_runs.proofs.ExpandedKinds.{all_given, constants_alike, undeclared, main_bounds, new_valued, local_bounds}
use Rattle.ped_call_runs.proofs.EachCalls.{OfCall, EachCall, AllCalls, UnitFits, FitsAt, all_weaker}
use Rattle.ped_call_runs.proofs.Traces.{Trace, call_traced, units_traced, first_bond}
use Rattle.ped_call_runs.proofs.PlacedNumbers.{placed_number, placed_all}
use Rattle.ped_call_runs.proofs.OwnNames.{IsNoOwn}
use Rattle.ped_call_runs.proofs.TraceNames.{AreNew, AreGiven, all_give, calls_give}
use Rattle.ped_call_runs.proofs.TraceRanges.{AreOwnPairs, all_owned, calls_owned}
use Rattle.ped_call_runs.proofs.ApartPairs.{pairs_apart, taken_stays}
use Rattle.ped_call_runs.proofs.RenamedEntries.{pair_swapped}
use Rattle.ped_call_runs.proofs.FirstBonds.{first_unknown, first_tight}
use Rattle.ped_call_runs.proofs.WrittenNames.{written_name, IsName, AreNames, in_stmts, DeclareNames, in_decls, declared_names, all_declared, in_declared}
use Rattle.ped_call_runs.proofs.NamedPairs.{named_pairs, in_named, named_first, named_own, named_once, named_new}
use Rattle.ped_call_runs.proofs.ConstantValues.{unreplaced}
use Rattle.ped_call_runs.proofs.EachElements.{StmtsElements}
use Rattle.ped_call_runs.proofs.UnitNames.{HasPlainNames, all_plain}
use Rattle.ped_call_runs.proofs.UnitArrays.{IsArray, all_arrays}
use Rattle.ped_call_runs.proofs.NamesThere.{body_named}
use Rattle.ped_call_runs.proofs.SuitedUnits.{Reads, CallSuits, OrCallSuits, Suits, AllSuit, unit_suits}
use Rattle.ped_call_runs.proofs.Contexts.{Context, Telling}
use Rattle.ped_call_runs.proofs.ArgumentsStand.{Facts}
use Rattle.ped_call_runs.proofs.Walks.{unit_found, all_stand, calls_stand}

-- the CALLs of a unit
module _ (us : ProgramUnits) (u : ProgramUnit) where
  or_call : (l r : ExprTree) (o : Option Called) → OrCallSuits us u l r o → OfCall (CallSuits us u) o
  or_call l r None h = tt
  or_call l r (Some c) h = h

  mutual
    each_call : (t : StmtTree) → Suits us u t → EachCall (CallSuits us u) t
    each_call (Assign l r) h = or_call l r (call_of l r) h
    each_call (If c x y) h = (all_calls x h.1, all_calls y h.2)
    each_call (Do head body) h = all_calls body h.1
    each_call (Print items) h = tt
    each_call (Read items) h = tt
    each_call Stop h = tt
    each_call (Comment text) h = tt

    all_calls : (ts : StmtTrees) → AllSuit us u ts → AllCalls (CallSuits us u) ts
    all_calls no_stmts h = tt
    all_calls (more_stmts t rest) h = (each_call t h.0, all_calls rest h.1)

module _ (us : ProgramUnits) (linked : IsLinked us) (plain : (u : ProgramUnit) → IsIn u (all_units us) → HasPlainNames u) where
  -- a CALL has as many arguments as there are dummy arguments
  pub as_many : (u : ProgramUnit) → IsIn u (all_units us) → (c : Called) → CallSuits us u c → (v : ProgramUnit) → unit_of us c.name ≡ Some v → length (listed c.arguments) ≡ length v.formals
  as_many u is c suits v found = go (eqb (length (listed c.arguments)) (length v.formals)) refl
    where
      itself : (n : ℕ) → eqb n n ≡ true
      itself n = grind (arith, eqb-true)

      go : (t : Bool) → eqb (length (listed c.arguments)) (length v.formals) ≡ t → length (listed c.arguments) ≡ length v.formals
      go true e = eqb-true (length (listed c.arguments)) (length v.formals) e
      go false e =
          absurd (linked Arguments suits.place.line (inr (inr (record {
            unit = u;
            is_unit = is;
            call = suits.place;
            is_call = suits.is_call;
            stands = (
              v,
              ap (λ (d : Called). unit_of us d.name) suits.is ∙ found,
              inl (λ same.
                  let here : length (listed c.arguments) ≡ length v.formals = subst (λ (d : Called). length (listed d.arguments) ≡ length v.formals) suits.is same in
                  both_ways (eqb (length (listed c.arguments)) (length v.formals)) e (ap (λ (m : ℕ). eqb m (length v.formals)) here ∙ itself (length v.formals))),
            );
            there = refl;
          }))))

  -- dummy arguments are different
  pub once : (v : ProgramUnit) → IsIn v (all_units us) → has_twice v.formals ≡ false
  once v is = go (has_twice v.formals) refl
    where
      go : (t : Bool) → has_twice v.formals ≡ t → t ≡ false
      go false e = refl
      go true e = absurd (linked Arguments v.line (inl (record { unit = v; is_unit = is; twice = e; there = refl })))

  call_fits : (depth : ℕ) → ((u : ProgramUnit) → IsIn u (all_units us) → AllCalls (FitsAt us depth) u.tree.body) → (u : ProgramUnit) → IsIn u (all_units us) → (c : Called) → CallSuits us u c → (o : Option ProgramUnit) → unit_of us c.name ≡ o → UnitFits (FitsAt us depth) c o
  call_fits depth deeper u is c suits None e = tt
  call_fits depth deeper u is c suits (Some v) e =
      let there : IsIn v (all_units us) = inr (unit_found us.others c.name v e) in
      (as_many u is c suits v e, once v there, deeper v there)

  -- CALLs of any depth fit
  pub unit_fits : (depth : ℕ) (u : ProgramUnit) → IsIn u (all_units us) → AllCalls (FitsAt us depth) u.tree.body
  unit_fits zero u is = all_weaker (CallSuits us u) (FitsAt us zero) (λ c h. tt) u.tree.body (all_calls us u u.tree.body (unit_suits us linked u is (plain u is)))
  unit_fits (suc depth) u is =
      all_weaker (CallSuits us u) (FitsAt us (suc depth)) (λ c h. call_fits depth (unit_fits depth) u is c h (unit_of us c.name) refl) u.tree.body (all_calls us u u.tree.body (unit_suits us linked u is (plain u is)))

-- a name of a CALL's own is none of these
own_outside : (m : ℕ) (x : List ℕ) (ys : List (List ℕ)) → AreNames ys → is_among (own m x) ys ≡ false
own_outside m x [] h = refl
own_outside m x (y ∷ ys) h = λ i. written_name y h.0 m x i || own_outside m x ys h.1 i

module _ (text : List ℕ) (us : ProgramUnits) (reads : ReadsLinkedUnits text us) (valid : IsValid (expansion us)) where
  pub none : us.main.formals ≡ []
  none = reads.right.reads.are.0.headed.1

  plain : (u : ProgramUnit) → IsIn u (all_units us) → HasPlainNames u
  plain = all_plain (all_units us) reads.right.names

  arrays : (u : ProgramUnit) → IsIn u (all_units us) → StmtsElements (IsArray u) u.tree.body
  arrays = all_arrays (all_units us) reads.right.names

  abbrev depth : ℕ
  depth = length us.others

  abbrev trace : Trace
  trace = units_traced us

  abbrev before : Given
  before = nothing_given us

  abbrev top : Given
  top = all_given us none

  abbrev body : StmtTrees
  body = us.main.tree.body

  abbrev size : ℕ
  size = all_sized (call_size depth us) body

  abbrev main : ProgramTree
  main = for_names us.main

  fit : AllCalls (FitsAt us depth) body
  fit = unit_fits us reads.linked plain depth us.main (inl refl)

  given : AreGiven before.taken top.taken trace.pairs
  given =
      all_give [] (call_size depth us) (call_expanded depth us (constants_of us.main)) (call_traced depth us (constants_of us.main) []) (FitsAt us depth) (λ c h n j g. calls_give us depth (constants_of us.main) [] c h n j g) body 1 1 before fit

  owned : AreOwnPairs 1 (1 + size) trace.pairs
  owned =
      all_owned [] (call_size depth us) (call_expanded depth us (constants_of us.main)) (call_traced depth us (constants_of us.main) []) (FitsAt us depth) (λ c h n j g. calls_owned us depth (constants_of us.main) [] c h n j g) body 1 1 before fit

  written : AreNames (stmts_names (expansion us).body)
  written = in_stmts (at_body (expansion us)) (expansion us).body (and_parts (decls_fit 0 (expansion us).decls) _ (and_parts _ (begins_with_statement (expansion us).body) valid.fits).0).1

  declared : DeclareNames us.main.tree.decls
  declared = in_decls 0 us.main.tree.decls top.arrays (and_parts (decls_fit 0 (expansion us).decls) _ (and_parts _ (begins_with_statement (expansion us).body) valid.fits).0).0

  main_decls : main.decls ≡ us.main.tree.decls
  main_decls = λ i. save_of_formals (none i) ++ us.main.tree.decls

  -- names of the main program are taken at first
  named_taken : (x : List ℕ) → is_among x (names_of main) ≡ true → is_among x before.taken ≡ true
  named_taken x h =
      let program : List (List ℕ) = flat_map program_name us.main.tree.decls in
      occurs_first (names_of main ++ program) x ∙ among_append x (names_of main) program ∙ ap (λ (t : Bool). t || is_among x program) h

  -- a named constant of the main program is a name as it is written
  constants_named : (y : List ℕ) (v : ℤ) → value_named (constants_of us.main) y ≡ Some v → IsName y
  constants_named y v h = go (is_among y (constant_names main.decls)) refl
    where
      go : (t : Bool) → is_among y (constant_names main.decls) ≡ t → IsName y
      go true e = each_of IsName (constant_names main.decls) (subst (λ (ds : List DeclTree). AreNames (constant_names ds)) (sym main_decls) declared.constants) y e
      go false e = let z : None ≡ Some v = sym (others_unvalued main y e) ∙ h in absurd cc

  names : AreNames (all_declared top.arrays)
  names =
      each_behind IsName (all_declared us.main.tree.decls) (all_declared top.arrays)
      (subst AreNames (flat_map-append declared_names us.main.tree.decls top.arrays) (in_declared 0 (expansion us).decls (and_parts (decls_fit 0 (expansion us).decls) _ (and_parts _ (begins_with_statement (expansion us).body) valid.fits).0).0))

  abbrev pairs : List (List ℕ × List ℕ)
  pairs = named_pairs trace.pairs

  owned_named : AreOwnPairs 1 (1 + size) pairs
  owned_named = record { own = named_own 1 (1 + size) trace.pairs owned.own; once = named_once trace.pairs owned.once }

  new : AreNew before.taken pairs
  new = named_new before.taken before.taken trace.pairs (λ y m. m) given.next

  apart : AreApart pairs
  apart = pairs_apart 1 (1 + size) before.taken pairs owned_named.once owned_named.own new

  abbrev f : List ℕ → List ℕ
  f = swapped pairs

  abbrev q : Setting
  q = renumbered (number_past trace.gaps) (setting_of (expansion us))

  facts : Facts us pairs trace.gaps top f q
  facts = record {
    linked = reads.linked;
    twice = swapped_twice pairs apart;
    paired = λ x y h. pair_swapped x y pairs apart h;
    number = λ n j s c t p k. placed_number trace.gaps n j s c t p k;
    valued = λ g h b l n is. new_valued us none names g h b l n is;
    local = λ g h b l n is t x same. local_bounds us none names g h b l n is t x same;
  }

  stays : (x : List ℕ) → is_among x before.taken ≡ true → IsNoOwn x → f x ≡ x
  stays x m h = taken_stays 1 (1 + size) before.taken pairs owned_named.own new x m h

  read_taken : (x : List ℕ) → Reads us us.main x → is_among x before.taken ≡ true
  read_taken x r = named_taken x (body_named us.main x r)

  same_value : (x : List ℕ) → value_named q.constants x ≡ value_named (constants_of us.main) x
  same_value x = ap (λ (cs : Values). value_named cs x) (constants_alike us none)

  context : Context us pairs trace.gaps top f q us.main 1 (first_bond pairs) [] (main_instance us)
  context = record {
    is_unit = inl refl;
    constants = refl;
    reads = λ x r w.
        let same : f x ≡ x = stays x (read_taken x r) (written_name x (w x refl)) in
        by_name x refl (ap Var (sym same)) (ap (value_named q.constants) same ∙ same_value x) (ap is_bound (first_tight pairs x (written_name x (w x refl))));
    old = λ x r w y e m z from. written_name y (w y e) m z;
    arrays = λ x r h w.
        let same : f x ≡ x = stays x (read_taken x r) (written_name x (w x refl)) in
        record { name = x; left = refl; right = ap Var (sym same); bounds = ap q.bounds same ∙ main_bounds us none names x (read_taken x r); bound = ap is_bound (first_tight pairs x (written_name x (w x refl))) };
    writes = λ x r w.
        let same : f x ≡ x = stays x (read_taken x r.reads) (written_name x (w x refl)) in
        record { name = x; left = refl; right = ap Var (sym same); bounds = ap q.bounds same ∙ main_bounds us none names x (read_taken x r.reads); bound = ap is_bound (first_tight pairs x (written_name x (w x refl))) };
    fixed = λ x r n e. (same_value x ∙ e, e);
    shape = λ x r n. inl (x, refl);
    fresh = λ m x from. others_unvalued main (own m x) (own_outside m x (constant_names main.decls) (subst (λ (ds : List DeclTree). AreNames (constant_names ds)) (sym main_decls) declared.constants));
    unknown = λ m x from. refl;
    number = λ n. refl;
  }

  telling : Telling us pairs trace.gaps top f q us.main [] (constants_of us.main)
  telling = record {
    no_name = λ a r h. ap (is_variable_name (constants_of us.main)) (unreplaced a) ∙ h;
    name = λ x r n. inl (ap (λ (o : Option ℤ). not (is_some o)) n);
    more = λ e v h. ap (λ (cs : Values). constant_value cs e) (constants_alike us none) ∙ h;
    unowned = constants_named;
  }

  live_alike : (x : List ℕ) → is_among x (live_names main) ≡ true → IsLiveAlike (first_bond pairs) f main (expansion us) x
  live_alike x m = record {
    name = stays x (named_taken x (there (is_among x (names_of main)) refl)) unowned;
    bond = first_tight pairs x unowned;
    bounds = main_bounds us none names x (named_taken x (there (is_among x (names_of main)) refl));
  }
    where
      saved : is_among x (flat_map saved_in main.decls) ≡ true
      saved = sym (once_among x (flat_map saved_in main.decls)) ∙ m

      unowned : IsNoOwn x
      unowned = written_name x (each_of IsName (flat_map saved_in main.decls) (subst (λ (ds : List DeclTree). AreNames (flat_map saved_in ds)) (sym main_decls) declared.saved) x saved)

      there : (t : Bool) → is_among x (names_of main) ≡ t → is_among x (names_of main) ≡ true
      there true e = e
      there false e = absurd (both_ways (is_among x (flat_map saved_in main.decls)) (no_saved main.decls x (undeclared main x e)) saved)

  -- the units and their expansion stand alike
  pub units_stand : StandAlike us
  units_stand = record {
    name = f;
    twice = swapped_twice pairs apart;
    bond = first_bond pairs;
    unknown = first_unknown pairs;
    number = number_past trace.gaps;
    told = record { back = λ m. expanded_back us trace.gaps (left_out_gaps us plain fit) m };
    statements = all_stand us pairs trace.gaps top f q facts plain arrays depth us.main 1 (first_bond pairs) [] (main_instance us) context (constants_of us.main)
        (calls_stand us pairs trace.gaps top f q facts plain arrays depth us.main 1 (first_bond pairs) [] (main_instance us) context (constants_of us.main) telling)
        body 1 1 before (omega (arith)) (unit_suits us reads.linked us.main (inl refl) (plain us.main (inl refl))) (arrays us.main (inl refl)) fit (record {
          placed = placed_all (statements_count (expansion us).body) trace;
          within = record { inside = λ x y is h. in_named x y trace.pairs is h; only = λ m x from to h. named_first (own m x) trace.pairs h };
          names = written;
          before = gives_same before;
          later = gives_same top;
        });
    live = live_names_alike us none;
    rows = of_each (IsLiveAlike (first_bond pairs) f main (expansion us)) (live_names main) live_alike;
  }
