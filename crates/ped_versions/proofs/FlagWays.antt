-- A way along a flag: names stand for the same there, the graph is the same, and it leads back.
use Rattle.std.proofs.Common.{◌≡◌, ℕ, ◌+◌, ◌<◌, ◌^◌, List, [], ◌∷◌, Bool, true, false, not, refl, sym, ap, subst, ◌∙◌, arith}
use Rattle.ped_tree.specs.Tree.{ProgramTree}
use Rattle.ped_tree.specs.Numbering.{statements_count}
use Rattle.ped_tree.specs.Printing.{program_text}
use Rattle.ped_history.specs.Timeline.{Timeline, pushed}
use Rattle.ped_valid.specs.ped_symbols.specs.NameRefusals.{IsValid}
use Rattle.ped_valid.specs.ped_symbols.specs.Kinds.{Table, table_of}
use Rattle.ped_valid.specs.ped_symbols.proofs.RightUseLaws.Whole.{right_program}
use Rattle.ped_update.specs.ped_graph.specs.Held.{Held, held_of}
use Rattle.ped_versions.specs.Flags.{flagged}
use Rattle.ped_versions.specs.declared.versions.Version.{Version}
use Rattle.ped_versions.specs.declared.versions.Entry.{Entry}
use Rattle.ped_versions.specs.declared.versions.Way.{Way}
use Rattle.ped_versions.specs.declared.versions.Way.TheVariants.{Flag}
use Rattle.ped_versions.specs.declared.changes.ChangeKind.{ChangeKind}
use Rattle.ped_versions.specs.Holding.{tree_of, IsWay, LeadsFrom, Leads, IsConsistent}
use Rattle.ped_versions.proofs.SerialTrees.{table_serial, held_serial}
use Rattle.ped_versions.proofs.FlagTrees.{serial_flagged}

-- the numbers of a valid program's statements, and one more, are small
pub few_numbers : (t : ProgramTree) → IsValid t → statements_count t.body + 1 < 2 ^ 32
few_numbers t v = let few = (right_program t v).few_statements in omega (arith, few)

pub flag_table : (t : ProgramTree) (s : ℕ) (p : Bool) → table_of (flagged t s p) ≡ table_of t
flag_table t s p = sym (table_serial (flagged t s p)) ∙ ap table_of (serial_flagged t s p) ∙ table_serial t

pub flag_held : (t : ProgramTree) (s : ℕ) (p : Bool) → held_of (flagged t s p) ≡ held_of t
flag_held t s p = sym (held_serial (flagged t s p)) ∙ ap held_of (serial_flagged t s p) ∙ held_serial t

not_not : (p : Bool) → not (not p) ≡ p
not_not true = refl
not_not false = refl

-- what belongs to the program belongs to the one with the flag
pub same_table : (t u : ProgramTree) (s : ℕ) (p : Bool) (x : Table) → u ≡ flagged t s p → x ≡ table_of t → x ≡ table_of u
same_table t u s p x there is = is ∙ sym (flag_table t s p) ∙ ap table_of (sym there)

pub same_held : (t u : ProgramTree) (s : ℕ) (p : Bool) (x : Held) → u ≡ flagged t s p → x ≡ held_of t → x ≡ held_of u
same_held t u s p x there is = is ∙ sym (flag_held t s p) ∙ ap held_of (sym there)

pub way_back : (t u : ProgramTree) (s : ℕ) (p : Bool) → u ≡ flagged t s p → flagged (flagged t s p) s (not p) ≡ t → flagged (flagged u s (not p)) s (not (not p)) ≡ u
way_back t u s p there way =
    ap (λ (x : ProgramTree). flagged (flagged x s (not p)) s (not (not p))) there
    ∙ ap (λ (x : ProgramTree). flagged x s (not (not p))) way ∙ ap (flagged t s) (not_not p) ∙ sym there

module _ {L : _} where
  pub flag_way : (w : Way L) (t : ProgramTree) (s : ℕ) (p : Bool) → w ≡ Flag s p → IsWay w t → flagged (flagged t s p) s (not p) ≡ t
  flag_way w t s p is way = subst (λ (x : Way L). IsWay x t) is way

  -- the present program has got a flag, and the entry that is pushed leads back
  pub flag_pushed : (present v : Version) (graph : Held) (past future : List (Entry L)) (kept next : Timeline (Entry L)) (other : List ℕ) (change : ChangeKind) (s : ℕ) (p : Bool) → IsConsistent present graph past future
      → v.symbols ≡ present.symbols → tree_of v ≡ flagged (tree_of present) s p → flagged (flagged (tree_of present) s p) s (not p) ≡ tree_of present
      → IsValid (tree_of v) → v.text ≡ program_text (tree_of v)
      → other ≡ present.text → kept.past ≡ past → next ≡ pushed (record { text = other; change = change; way = Flag s (not p) }) kept
      → IsConsistent v graph next.past next.future
  flag_pushed present v graph past future kept next other change s p is symbols tree way valid text was before push =
      let t = tree_of present in
      let back : flagged (tree_of v) s (not p) ≡ t = ap (λ (x : ProgramTree). flagged x s (not p)) tree ∙ way in
      let e : Entry L = record { text = other; change = change; way = Flag s (not p) } in
      let entry : LeadsFrom (tree_of v) e = record {
        valid = subst IsValid (sym back) is.version.valid;
        text = was ∙ is.version.text ∙ ap program_text (sym back);
        way = way_back t (tree_of v) s p tree way;
      } in
      let whole : IsConsistent v graph (e ∷ past) [] = record {
        version = record { valid = valid; symbols = same_table t (tree_of v) s p v.symbols tree (symbols ∙ is.version.symbols); text = text };
        graph_is = same_held t (tree_of v) s p graph tree is.graph_is;
        past_leads = (entry, subst (λ (x : ProgramTree). Leads x past) (sym back) is.past_leads);
        future_leads = tt;
      } in
      subst (λ (h : Timeline (Entry L)). IsConsistent v graph h.past h.future) (sym push) (subst (λ (q : List (Entry L)). IsConsistent v graph (e ∷ q) []) (sym before) whole)
