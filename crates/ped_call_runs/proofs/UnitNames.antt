-- Names of a unit whose names are right: dummy arguments and names that are assigned or private are no named constants, and increments have values.
use Rattle.std.proofs.Common.{◌≡◌, ℕ, List, [], ◌∷◌, ◌++◌, map, true, false, None, refl, sym, ap, ◌∙◌, inl, inr}
use Rattle.std.specs.List.{flat_map, list_any}
use Rattle.std.proofs.lemmas.Bool.{or_parts}
use Rattle.std.proofs.lemmas.Grind.{flat_map-append}
use Rattle.std.proofs.lemmas.List.Folds.{list_any-append}
use Rattle.ped_base.specs.Lists.{is_among}
use Rattle.ped_tree.specs.Constants.NamedConstants.{value_named}
use Rattle.ped_tree.specs.Grammar.Refusal.{Finding}
use Rattle.ped_tree.specs.NamesIn.{first_occurrences, private_names_in, all_private_names_in}
use Rattle.ped_tree.specs.Tree.{ExprTree, Int, Var, Element, Neg, Add, Sub, Mul, Div, Pow, Call, StmtTree, StmtTrees, Assign, If, Do, Print, Read, Stop, Comment, no_stmts, more_stmts, DeclTree, ProgramTree}
use Rattle.ped_steps.specs.ped_refs.specs.References.{references}
use Rattle.ped_steps.specs.ped_symbols.specs.declared.uses.Role.TheVariants.{Saved, Rejected, Private}
use Rattle.ped_steps.specs.ped_symbols.specs.declared.uses.Use.{Use}
use Rattle.ped_steps.specs.ped_symbols.specs.Declarations.{Declared, declared_in, is_constant}
use Rattle.ped_steps.specs.ped_symbols.specs.NameRefusals.{uses_constant, at_first, behind_sites, name_refusals}
use Rattle.ped_steps.specs.ped_symbols.specs.Sites.{Site, private_site, stmt_sites, stmts_sites, decl_sites, program_sites, site_uses}
use Rattle.ped_steps.specs.ped_symbols.specs.Uses.{used_as, expr_uses, target_uses, own_uses}
use Rattle.ped_steps.specs.ped_symbols.specs.Values.{Values, site_fails}
use Rattle.ped_steps.specs.ped_symbols.proofs.RightUseLaws.Constants.{none_named}
use Rattle.ped_steps.specs.ped_symbols.proofs.RightUseLaws.Occurring.{among_first}
use Rattle.ped_steps.specs.ped_symbols.proofs.RightUseLaws.Quiet.{AreQuiet, all_quiet, quiet_back, no_constant_used, none_fails, stmts_declare_nothing}
use Rattle.ped_calls.specs.ped_units.specs.Forms.{Called}
use Rattle.ped_calls.specs.ped_units.specs.Units.{ProgramUnit, with_calls, all_with_calls}
use Rattle.ped_calls.specs.ped_units.specs.Refusals.{dimensioned, using_arguments, save_of_formals, for_names, lines_for_names, units_name_refusals}
use Rattle.ped_calls.specs.ped_units.specs.Linking.{IsIn, assigned_left, assigned_in, all_assigned_in, assigns}
use Rattle.ped_calls.specs.ped_units.specs.Expanding.{constants_of}
use Rattle.ped_call_runs.proofs.EachNames.{Each, each_of, each_map, each_joined}
use Rattle.ped_call_runs.proofs.DeclaredAtLast.{last_values}

-- the name is no named constant of the unit
abbrev pub IsPlain : ProgramUnit → List ℕ → Type 0
IsPlain u x = value_named (constants_of u) x ≡ None

module _ (d : Declared) where
  -- no use is that of a constant as a variable
  abbrev NoneUsed : List Use → Type 0
  NoneUsed uses = list_any (uses_constant d) uses ≡ false

  abbrev NoneAt : List Site → Type 0
  NoneAt sites = NoneUsed (flat_map site_uses sites)

  abbrev NoConstant : List ℕ → Type 0
  NoConstant x = is_constant d x ≡ false

  -- in each of two lists
  used_both : (xs ys : List Use) → NoneUsed (xs ++ ys) → NoneUsed xs × NoneUsed ys
  used_both xs ys h = or_parts (list_any (uses_constant d) xs) (list_any (uses_constant d) ys) (sym (list_any-append (uses_constant d) xs ys) ∙ h)

  at_both : (xs ys : List Site) → NoneAt (xs ++ ys) → NoneAt xs × NoneAt ys
  at_both xs ys h = used_both (flat_map site_uses xs) (flat_map site_uses ys) (sym (ap (list_any (uses_constant d)) (flat_map-append site_uses xs ys)) ∙ h)

  target_plain : (e : ExprTree) → NoneUsed (target_uses e) → Each NoConstant (assigned_left e)
  target_plain (Int n) h = tt
  target_plain (Var x) h = ((or_parts (is_constant d x) false h).0, tt)
  target_plain (Element x es) h = ((or_parts (is_constant d x) _ h).0, tt)
  target_plain (Neg a) h = tt
  target_plain (Add a b) h = tt
  target_plain (Sub a b) h = tt
  target_plain (Mul a b) h = tt
  target_plain (Div a b) h = tt
  target_plain (Pow a b) h = tt
  target_plain (Call f es) h = tt

  targets_plain : (items : List ExprTree) → NoneUsed (flat_map target_uses items) → Each NoConstant (flat_map assigned_left items)
  targets_plain [] h = tt
  targets_plain (e ∷ rest) h =
      let p = used_both (target_uses e) (flat_map target_uses rest) h in
      each_joined NoConstant (assigned_left e) (flat_map assigned_left rest) (target_plain e p.0) (targets_plain rest p.1)

  all_private : (xs : List (List ℕ)) → NoneUsed (map (used_as Private) xs) → Each NoConstant xs
  all_private [] h = tt
  all_private (x ∷ xs) h = let p = or_parts (is_constant d x) (list_any (uses_constant d) (map (used_as Private) xs)) h in (p.0, all_private xs p.1)

  private_plain : (xs : List (List ℕ)) → NoneAt (private_site xs) → Each NoConstant xs
  private_plain [] h = tt
  private_plain (x ∷ xs) h = all_private (x ∷ xs) (used_both (map (used_as Private) (x ∷ xs)) [] h).0

  pub all_saved : (xs : List (List ℕ)) → NoneUsed (map (used_as Saved) xs) → Each NoConstant xs
  all_saved [] h = tt
  all_saved (x ∷ xs) h = let p = or_parts (is_constant d x) (list_any (uses_constant d) (map (used_as Saved) xs)) h in (p.0, all_saved xs p.1)

  -- names that are assigned, and private names
  pub record ArePlain (written copied : List (List ℕ)) : Type 0 where
    pub assigned : Each NoConstant written
    pub private : Each NoConstant copied

  both_plain : (a b x y : List (List ℕ)) → ArePlain a x → ArePlain b y → ArePlain (a ++ b) (x ++ y)
  both_plain a b x y p q = record { assigned = each_joined NoConstant a b p.assigned q.assigned; private = each_joined NoConstant x y p.private q.private }

  assign_plain : (l r : ExprTree) → NoneUsed ((target_uses l ++ expr_uses r) ++ []) → ArePlain (assigned_left l) []
  assign_plain l r h = record { assigned = target_plain l (used_both (target_uses l) (expr_uses r) (used_both (target_uses l ++ expr_uses r) [] h).0).0; private = tt }

  module _ (f : Called → StmtTree) where
    mutual
      stmt_plain : (s : StmtTree) → NoneAt (stmt_sites (with_calls f s)) → ArePlain (assigned_in s) (private_names_in s)
      stmt_plain (Assign (Int n) r) h = record { assigned = tt; private = tt }
      stmt_plain (Assign (Var x) r) h = assign_plain (Var x) r h
      stmt_plain (Assign (Element x es) r) h = assign_plain (Element x es) r h
      stmt_plain (Assign (Neg a) r) h = record { assigned = tt; private = tt }
      stmt_plain (Assign (Add a b) r) h = record { assigned = tt; private = tt }
      stmt_plain (Assign (Sub a b) r) h = record { assigned = tt; private = tt }
      stmt_plain (Assign (Mul a b) r) h = record { assigned = tt; private = tt }
      stmt_plain (Assign (Div a b) r) h = record { assigned = tt; private = tt }
      stmt_plain (Assign (Pow a b) r) h = record { assigned = tt; private = tt }
      stmt_plain (Assign (Call g es) r) h = record { assigned = tt; private = tt }
      stmt_plain (If c x y) h =
          let xs = all_with_calls f x in
          let ys = all_with_calls f y in
          let p = used_both (own_uses (If c xs ys)) (flat_map site_uses (stmts_sites xs ++ stmts_sites ys)) h in
          let q = at_both (stmts_sites xs) (stmts_sites ys) p.1 in
          both_plain (all_assigned_in x) (all_assigned_in y) (all_private_names_in x) (all_private_names_in y) (stmts_plain x q.0) (stmts_plain y q.1)
      stmt_plain (Do head body) h =
          let bs = all_with_calls f body in
          let p = used_both (own_uses (Do head bs)) (flat_map site_uses (private_site head.private ++ stmts_sites bs)) h in
          let q = at_both (private_site head.private) (stmts_sites bs) p.1 in
          let own = used_both (map (used_as Rejected) head.rejected) _ p.0 in
          let more = stmts_plain body q.1 in
          record { assigned = ((or_parts (is_constant d head.variable) _ own.1).0, more.assigned); private = each_joined NoConstant head.private (all_private_names_in body) (private_plain head.private q.0) more.private }
      stmt_plain (Print items) h = record { assigned = tt; private = tt }
      stmt_plain (Read items) h = record { assigned = targets_plain items (used_both (flat_map target_uses items) [] h).0; private = tt }
      stmt_plain Stop h = record { assigned = tt; private = tt }
      stmt_plain (Comment text) h = record { assigned = tt; private = tt }

      pub stmts_plain : (ss : StmtTrees) → NoneAt (stmts_sites (all_with_calls f ss)) → ArePlain (all_assigned_in ss) (all_private_names_in ss)
      stmts_plain no_stmts h = record { assigned = tt; private = tt }
      stmts_plain (more_stmts s rest) h =
          let q = at_both (stmt_sites (with_calls f s)) (stmts_sites (all_with_calls f rest)) h in
          both_plain (assigned_in s) (all_assigned_in rest) (private_names_in s) (all_private_names_in rest) (stmt_plain s q.0) (stmts_plain rest q.1)

  -- dummy arguments, which are saved
  pub formals_plain : (fs : List (List ℕ)) (ds : List DeclTree) → NoneAt (flat_map decl_sites (save_of_formals fs ++ ds)) → (x : List ℕ) → is_among x fs ≡ true → NoConstant x
  formals_plain [] ds h x m = absurd cc
  formals_plain (f ∷ fs) ds h x m =
      let names = first_occurrences [] (f ∷ fs) in
      each_of NoConstant names (all_saved names (used_both (map (used_as Saved) names) (flat_map site_uses (flat_map decl_sites ds)) h).0) x (among_first [] (f ∷ fs) x m refl)

-- what is known of a unit whose names are right
pub record HasPlainNames (u : ProgramUnit) : Type 0 where
  pub formals : (x : List ℕ) → is_among x u.formals ≡ true → IsPlain u x
  pub assigned : Each (IsPlain u) (assigns u)
  pub private : Each (IsPlain u) (all_private_names_in u.tree.body)
  pub steps : list_any (site_fails (constants_of u)) (stmts_sites (all_with_calls (using_arguments (dimensioned u.tree.decls)) u.tree.body)) ≡ false

pub plain_names : (lines : List ℕ) (u : ProgramUnit) → name_refusals lines (for_names u) ≡ [] → HasPlainNames u
plain_names lines u h = record {
  formals = λ x m. plain x (formals_plain d u.formals u.tree.decls first.0 x m);
  assigned = each_map (λ x. is_constant d x ≡ false) (IsPlain u) (assigns u) plain body.assigned;
  private = each_map (λ x. is_constant d x ≡ false) (IsPlain u) (all_private_names_in u.tree.body) plain body.private;
  steps =
      ap (λ (values : Values). list_any (site_fails values) (stmts_sites t.body)) (last_values t)
      ∙ none_fails d (references t) (behind_sites at_first (flat_map decl_sites t.decls)) (stmts_sites t.body) (stmts_declare_nothing t.body) (quiet_back d (references t) at_first (flat_map decl_sites t.decls) (stmts_sites t.body) quiet);
}
  where
    t : ProgramTree
    t = for_names u

    d : Declared
    d = declared_in t.decls

    quiet : AreQuiet d (references t) at_first (program_sites t)
    quiet = all_quiet d (references t) at_first lines (program_sites t) h

    first : NoneAt d (flat_map decl_sites t.decls) × NoneAt d (stmts_sites t.body)
    first = at_both d (flat_map decl_sites t.decls) (stmts_sites t.body) (no_constant_used d (references t) at_first (program_sites t) quiet)

    body : ArePlain d (assigns u) (all_private_names_in u.tree.body)
    body = stmts_plain d (using_arguments (dimensioned u.tree.decls)) u.tree.body first.1

    plain : (x : List ℕ) → is_constant d x ≡ false → IsPlain u x
    plain x n = ap (λ (values : Values). value_named values x) (last_values t) ∙ none_named at_first t.decls x n refl

none_before : (a b : List Finding) → a ++ b ≡ [] → a ≡ []
none_before [] b h = refl
none_before (x ∷ a) b h = absurd cc

none_behind : (a b : List Finding) → a ++ b ≡ [] → b ≡ []
none_behind [] b h = h
none_behind (x ∷ a) b h = absurd cc

-- each unit of a file whose names are right
pub all_plain : (us : List ProgramUnit) → units_name_refusals us ≡ [] → (u : ProgramUnit) → IsIn u us → HasPlainNames u
all_plain [] h u is = absurd is
all_plain (v ∷ vs) h u (inl e) = plain_names (lines_for_names u) u (ap (λ (w : ProgramUnit). name_refusals (lines_for_names w) (for_names w)) e ∙ none_before (name_refusals (lines_for_names v) (for_names v)) (units_name_refusals vs) h)
all_plain (v ∷ vs) h u (inr is) = all_plain vs (none_behind (name_refusals (lines_for_names v) (for_names v)) (units_name_refusals vs) h) u is
