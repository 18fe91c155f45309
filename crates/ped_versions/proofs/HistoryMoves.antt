-- Steps along the history of versions.
use Rattle.std.proofs.Common.{◌≡◌, List, [], ◌∷◌, drop, slice_get, Option, Some, None, sym, ap, subst, ◌∙◌}
use Rattle.ped_tree.specs.Tree.{ProgramTree}
use Rattle.ped_tree.specs.Printing.{program_text}
use Rattle.ped_update.specs.ped_graph.specs.Held.{Held, held_of}
use Rattle.ped_valid.specs.ped_symbols.specs.Kinds.{table_of}
use Rattle.ped_valid.specs.ped_symbols.specs.NameRefusals.{IsValid}
use Rattle.ped_versions.specs.declared.versions.Version.{Version}
use Rattle.ped_versions.specs.declared.versions.Entry.{Entry}
use Rattle.ped_versions.specs.Holding.{tree_of, led_by, IsVersion, IsWay, LeadsFrom, Leads, IsConsistent}

module _ {L : _} where
  some_is : (x y : Entry L) → Some x ≡ Some y → x ≡ y
  some_is x y e = cc

  first_is : (es : List (Entry L)) (e : Entry L) → slice_get es 0 ≡ Some e → es ≡ e ∷ drop 1 es
  first_is [] e h = let none : ◌≡◌ {A = Option (Entry L)} None (Some e) = h in absurd cc
  first_is (x ∷ es) e h = ap (λ (y : Entry L). y ∷ es) (some_is x e h)

  -- what the first of some entries leads to
  pub first_leads : (t : ProgramTree) (es : List (Entry L)) (e : Entry L) → Leads t es → slice_get es 0 ≡ Some e → LeadsFrom t e
  first_leads t es e leads first = (subst (Leads t) (first_is es e first) leads).0

  rest_leads : (t u : ProgramTree) (es : List (Entry L)) (e : Entry L) → Leads t es → slice_get es 0 ≡ Some e → u ≡ led_by e.way t → Leads u (drop 1 es)
  rest_leads t u es e leads first there = subst (λ (x : ProgramTree). Leads x (drop 1 es)) (sym there) (subst (Leads t) (first_is es e first) leads).1

  -- the program of the first of some entries is a version
  first_version : (t : ProgramTree) (e : Entry L) (v : Version) → LeadsFrom t e → v.text ≡ e.text → tree_of v ≡ led_by e.way t → v.symbols ≡ table_of (tree_of v) → IsVersion v
  first_version t e v leads text tree symbols = record {
    valid = subst IsValid (sym tree) leads.valid;
    symbols = symbols;
    text = text ∙ leads.text ∙ ap program_text (sym tree);
  }

  -- the entry that is left leads back
  left_leads : (present : Version) (u : ProgramTree) (es : List (Entry L)) (left : Entry L)
      → IsVersion present → left.text ≡ present.text → led_by left.way u ≡ tree_of present → IsWay left.way u → Leads (tree_of present) es
      → Leads u (left ∷ es)
  left_leads present u es left is other back way leads = (
    record { valid = subst IsValid (sym back) is.valid; text = other ∙ is.text ∙ ap program_text (sym back); way = way },
    subst (λ (t : ProgramTree). Leads t es) (sym back) leads,
  )

  module _ (present v : Version) (graph g : Held) (past future : List (Entry L)) (e left : Entry L) (is : IsConsistent present graph past future)
      (at : v.text ≡ e.text) (tree : tree_of v ≡ led_by e.way (tree_of present)) (symbols : v.symbols ≡ table_of (tree_of v)) (held : g ≡ held_of (tree_of v))
      (other : left.text ≡ present.text) (change : left.change ≡ e.change) (back : led_by left.way (tree_of v) ≡ tree_of present) (way : IsWay left.way (tree_of v)) where
    -- the present program has become that of the first past entry, and the entry leads back to what was present
    pub went_back : slice_get past 0 ≡ Some e → IsConsistent v g (drop 1 past) (left ∷ future)
    went_back first = record {
      version = first_version (tree_of present) e v (first_leads (tree_of present) past e is.past_leads first) at tree symbols;
      graph_is = held;
      past_leads = rest_leads (tree_of present) (tree_of v) past e is.past_leads first tree;
      future_leads = left_leads present (tree_of v) future left is.version other back way is.future_leads;
    }

    -- and of the first future entry
    pub went_forward : slice_get future 0 ≡ Some e → IsConsistent v g (left ∷ past) (drop 1 future)
    went_forward first = record {
      version = first_version (tree_of present) e v (first_leads (tree_of present) future e is.future_leads first) at tree symbols;
      graph_is = held;
      past_leads = left_leads present (tree_of v) past left is.version other back way is.past_leads;
      future_leads = rest_leads (tree_of present) (tree_of v) future e is.future_leads first tree;
    }
