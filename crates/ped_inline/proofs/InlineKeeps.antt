-- `inline` keeps the meaning.
use Rattle.std.proofs.Common.{◌≡◌, ℕ, suc, ◌-◌, nat_lt, List, [], ◌++◌, Bool, true, false, ◌||◌, if◌then◌else◌, refl, sym, ap, subst, ◌∙◌, append-nil, append_assoc, arith}
use Rattle.std.specs.Str.Lines.{lines}
use Rattle.std.specs.List.{flat_map}
use Rattle.std.proofs.lemmas.Bool.{lt-ltb, ltb-true}
use Rattle.ped_base.specs.Lists.{is_among}
use Rattle.ped_tree.specs.Tree.{StmtTrees, no_stmts, more_stmts, ProgramTree}
use Rattle.ped_tree.specs.NamesIn.{cond_names, head_names, stmt_names, stmts_names, saved_in}
use Rattle.ped_rules.specs.ped_store.specs.Stores.{Store, store_at_start}
use Rattle.ped_rules.specs.ped_store.specs.Races.{accesses, HasNoRace}
use Rattle.ped_rules.specs.ped_eval.specs.Scopes.{Setting}
use Rattle.ped_rules.specs.ped_eval.specs.Runs.{Run, run_all}
use Rattle.ped_rules.specs.ped_eval.specs.Outcomes.{Ends, IsRaceFree, bounds_of, outcome, outcome_of, run_of, setting_of}
use Rattle.ped_rules.specs.ped_symbols.specs.Kinds.{kind_in, names_of}
use Rattle.ped_rules.specs.ped_symbols.specs.Sites.{decl_sites, stmts_sites}
use Rattle.ped_rules.specs.ped_symbols.proofs.RightUseLaws.Whole.{names_occur, same_kinds, same_values}
use Rattle.ped_rules.specs.ped_steps.specs.Replacing.{followed, alone}
use Rattle.ped_rules.specs.ped_steps.specs.Runs.Gaps.{Gap, at_front, past, in_then, in_else, in_body, filled}
use Rattle.ped_rules.specs.ped_steps.specs.Runs.Meaning.{Keeps}
use Rattle.ped_rules.specs.ped_steps.specs.Runs.Renumbering.{IsRenumbered, IsToldBack, renumbered}
use Rattle.ped_rules.specs.ped_steps.proofs.RunLaws.NamesKept.{occurs, occurs_append}
use Rattle.ped_rules.specs.ped_steps.proofs.RunLaws.NamesAtSites.{stmts_at}
use Rattle.ped_rules.specs.ped_steps.proofs.RunLaws.RenumberedPrograms.{program_renumbered, ends_back, no_race_back, outcome_renumbered}
use Rattle.ped_rules.specs.ped_loop_runs.proofs.PastingLaws.KeptMeaning.{shown_alike}
use Rattle.ped_rules.specs.KeepMaps.{closed_up, opened_at}
use Rattle.ped_rules.specs.Settling.{settled}
use Rattle.ped_inline.specs.Blocks.{IsBlock}
use Rattle.ped_inline.specs.Inlining.{inlined}
use Rattle.ped_inline.proofs.InlineAnswers.{program_opened}
use Rattle.ped_inline.proofs.InlinedShape.{call_block, text, raw, gap}
use Rattle.ped_inline.proofs.AlikeRuns.{AreAlike}
use Rattle.ped_inline.proofs.OpenedRuns.{block_opened}
use Rattle.ped_inline.proofs.SettledPrograms.{run_behind, settled_kinds, settled_saved, settled_setting}

-- the numbers tell the old ones
pub closed_opened : (l n : ℕ) → closed_up l (opened_at l n) ≡ n
closed_opened l n = by (nat_lt n l) refl
  where
    back : (k : ℕ) → (b : Bool) → nat_lt (suc k) l ≡ b → nat_lt k l ≡ false → (if b then suc k else (suc k - 1)) ≡ k
    back k true e f = let less = ltb-true (suc k) l e in let wrong : true ≡ false = sym (lt-ltb k l (omega (arith, less))) ∙ f in absurd cc
    back k false e f = let same : suc k - 1 ≡ k = omega arith in same

    by : (b : Bool) → nat_lt n l ≡ b → closed_up l (opened_at l n) ≡ n
    by true e = ap (λ (b : Bool). closed_up l (if b then n else suc n)) e ∙ ap (λ (b : Bool). if b then n else (n - 1)) e
    by false e = ap (λ (b : Bool). closed_up l (if b then n else suc n)) e ∙ back n (nat_lt (suc n) l) refl e

-- a block names what its body names
module _ (old new : StmtTrees) (same : stmts_names new ≡ stmts_names old) where
  names_followed : (xs ys : StmtTrees) → stmts_names (followed xs ys) ≡ stmts_names xs ++ stmts_names ys
  names_followed no_stmts ys = refl
  names_followed (more_stmts s xs) ys = ap (λ (zs : List (List ℕ)). stmt_names s ++ zs) (names_followed xs ys) ∙ sym (append_assoc (stmt_names s) (stmts_names xs) (stmts_names ys))

  names_filled : (gap : Gap) → stmts_names (filled gap new) ≡ stmts_names (filled gap old)
  names_filled (at_front rest) = names_followed new rest ∙ ap (λ (zs : List (List ℕ)). zs ++ stmts_names rest) same ∙ sym (names_followed old rest)
  names_filled (past s gap) = λ i. stmt_names s ++ names_filled gap i
  names_filled (in_then c gap b rest) = λ i. ((cond_names c ++ names_filled gap i) ++ stmts_names b) ++ stmts_names rest
  names_filled (in_else c a gap rest) = λ i. ((cond_names c ++ stmts_names a) ++ names_filled gap i) ++ stmts_names rest
  names_filled (in_body h gap rest) = λ i. (head_names h ++ names_filled gap i) ++ stmts_names rest

module _ (t : ProgramTree) (s : ℕ) (body : StmtTrees) (b : IsBlock t s body) where
  abbrev r : ProgramTree
  r = raw t s body b

  abbrev u : ProgramTree
  u = settled (raw t s body b)

  abbrev old : StmtTrees
  old = alone (call_block (text t s body b) body)

  abbrev hole : Gap
  hole = (gap t s body b).gap

  -- the same names stand for the same
  same_stmts : stmts_names r.body ≡ stmts_names t.body
  same_stmts =
      ap stmts_names (gap t s body b).new_is
      ∙ names_filled old body (sym (append-nil (stmts_names body ++ []) ∙ append-nil (stmts_names body))) hole
      ∙ sym (ap stmts_names (gap t s body b).old_is)

  occurs_in : (v : ProgramTree) (y : List ℕ) → is_among y (names_of v) ≡ occurs y (flat_map decl_sites v.decls) || is_among y (stmts_names v.body)
  occurs_in v y =
      names_occur v y ∙ occurs_append y (flat_map decl_sites v.decls) (stmts_sites v.body)
      ∙ ap (λ (names : List (List ℕ)). occurs y (flat_map decl_sites v.decls) || is_among y names) (stmts_at v.body)

  same_names : (y : List ℕ) → is_among y (names_of r) ≡ is_among y (names_of t)
  same_names y = occurs_in r y ∙ ap (λ (names : List (List ℕ)). occurs y (flat_map decl_sites t.decls) || is_among y names) same_stmts ∙ sym (occurs_in t y)

  raw_kinds : (y : List ℕ) → kind_in r y ≡ kind_in t y
  raw_kinds = same_kinds t r refl same_names

  pub inlined_kinds : (y : List ℕ) → kind_in u y ≡ kind_in t y
  inlined_kinds y = settled_kinds r y ∙ raw_kinds y

  setting : setting_of u ≡ setting_of t
  setting = settled_setting r ∙ (λ i. record { bounds = λ y. bounds_of (raw_kinds y i); constants = same_values t r refl i; number = λ n. n })

  saved : flat_map saved_in u.decls ≡ flat_map saved_in t.decls
  saved = settled_saved r

  told : IsToldBack (opened_at s) (closed_up s)
  told = record { back = closed_opened s }

  abbrev q : Setting
  q = renumbered (opened_at s) (setting_of u)

  module _ (data_bytes : List ℕ) where
    abbrev start : Store
    start = store_at_start (lines data_bytes)

    -- the new program does what the old one does
    alike : AreAlike (run_all q u.body 1 [] start) (run_of t data_bytes)
    alike =
        subst (λ (w : Run). AreAlike w (run_of t data_bytes)) (sym (new_run ∙ new_filled))
        (subst (λ (ss : StmtTrees). AreAlike (run_all (renumbered (opened_at s) (setting_of t)) (filled hole body) 1 [] start) (run_all (setting_of t) ss 1 [] start)) (sym (gap t s body b).old_is)
        (block_opened (setting_of t) s (text t s body b) body hole 1 [] (gap t s body b).number start))
      where
        new_run : run_all q u.body 1 [] start ≡ run_all (renumbered (opened_at s) (setting_of t)) r.body 1 [] start
        new_run = run_behind q r.body 1 [] start ∙ ap (λ (p : Setting). run_all (renumbered (opened_at s) p) r.body 1 [] start) setting

        new_filled : run_all (renumbered (opened_at s) (setting_of t)) r.body 1 [] start ≡ run_all (renumbered (opened_at s) (setting_of t)) (filled hole body) 1 [] start
        new_filled = ap (λ (ss : StmtTrees). run_all (renumbered (opened_at s) (setting_of t)) ss 1 [] start) (gap t s body b).new_is

    moved : IsRenumbered (opened_at s) (run_all q u.body 1 [] start) (run_of u data_bytes)
    moved = program_renumbered (opened_at s) (closed_up s) told (setting_of u) u (lines data_bytes)

    module _ (free : IsRaceFree t data_bytes) where
      new_ends : Ends (run_of u data_bytes).ending
      new_ends = ends_back (opened_at s) (closed_up s) told (run_all q u.body 1 [] start).ending (run_of u data_bytes).ending moved.ending (subst Ends (sym alike.ending) free.0)

      outcome_kept : outcome u data_bytes ≡ outcome t data_bytes
      outcome_kept =
          sym (outcome_renumbered (opened_at s) u (run_all q u.body 1 [] start).ending (run_of u data_bytes).ending moved.ending new_ends)
          ∙ ap (outcome_of u) alike.ending ∙ shown_alike t u saved (λ y among. inlined_kinds y) (run_of t data_bytes).ending

      new_free : HasNoRace (accesses (run_of u data_bytes).acts)
      new_free = no_race_back (opened_at s) (closed_up s) told (run_of u data_bytes).acts (run_all q u.body 1 [] start).acts moved.acts (subst HasNoRace (sym alike.made) free.1)

  pub inlined_keeps : Keeps t (inlined t s)
  inlined_keeps =
      subst (Keeps t) (ap settled (program_opened t s body b))
      (record { saved = saved; same = outcome_kept; race_free = λ data_bytes free. (new_ends data_bytes free, new_free data_bytes free) })
