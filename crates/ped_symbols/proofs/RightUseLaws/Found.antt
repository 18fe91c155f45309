-- Names with their kinds, as they are looked up.
use Rattle.std.proofs.Common.{◌≡◌, ℕ, List, [], ◌∷◌, map, Bool, true, false, Some, None, refl, ap, sym, if◌then◌else◌}
use Rattle.std.specs.Prelude.{◌||◌}
use Rattle.ped_base.specs.Lists.{is_same_text, is_among}
use Rattle.ped_tree.specs.Tree.{ProgramTree}
use Rattle.ped_base.proofs.NameEquality.{same_is}
use Rattle.ped_symbols.specs.declared.symbols.Kind.{Kind}
use Rattle.ped_symbols.specs.Entries.{entry_of}
use Rattle.ped_symbols.specs.Kinds.{kind_of, names_of, kinds_of, kind_in}

-- a name is found with its kind where it is among the names
found : (kind : List ℕ → Kind) (names : List (List ℕ)) (x : List ℕ) → entry_of (map (λ y. (y, kind y)) names) x ≡ (if is_among x names then Some (kind x) else None)
found kind [] x = refl
found kind (y ∷ ys) x = go (is_same_text x y) refl (found kind ys x)
  where
    go : (r : Bool) → is_same_text x y ≡ r → entry_of (map (λ y. (y, kind y)) ys) x ≡ (if is_among x ys then Some (kind x) else None)
        → (if r then Some (kind y) else entry_of (map (λ y. (y, kind y)) ys) x) ≡ (if r || is_among x ys then Some (kind x) else None)
    go true e h = ap (λ (z : List ℕ). Some (kind z)) (sym (same_is x y e))
    go false e h = h

pub found_in_program : (t : ProgramTree) (x : List ℕ) → entry_of (kinds_of t) x ≡ kind_in t x
found_in_program t x = found (kind_of t) (names_of t) x
