-- The CALLs are put back, one by one.
use Rattle.std.proofs.Common.{◌≡◌, ℕ, zero, suc, ◌+◌, ◌<◌, List, [], ◌∷◌, ◌++◌, map, length, drop, Bool, Option, refl, sym, ap, ◌∙◌, append_assoc, append-nil, Result, Ok, Err, arith}
use Rattle.std.specs.Prelude.{IfOk, get_or}
use Rattle.ped_tree.specs.Grammar.Items.{Entry}
use Rattle.ped_tree.specs.Grammar.ItemViews.{entry_of}
use Rattle.ped_tree.specs.declared.grammar.items.Entry as code
use Rattle.ped_units.specs.Forms.{Called, UnitItem}
use Rattle.ped_units.specs.Units.{call_statement}
use Rattle.ped_units.specs.Reading.{UnitEntry, is_end_next, as_reading, as_entries, stand_in}
use Rattle.ped_units.specs.Refusals.{call_in}
use Rattle.ped_units.specs.Seeing.{seen_as, kept_as, call_view, calls_in_entries}
use Rattle.ped_units.specs.declared.items.Called as items

-- statements that are left with their CALLs, and those that have got them back
pub record KeptSoFar (in_subroutine : Bool) (all : List UnitEntry) (kept left : List Entry) (calls : List (Option Called)) : Type 0 where
  pub rest : List UnitEntry
  pub seen : left ≡ as_entries stand_in in_subroutine rest
  pub are : calls ≡ calls_in_entries rest
  pub whole : kept ++ as_entries call_statement in_subroutine rest ≡ as_entries call_statement in_subroutine all

first_or : Entry → List Entry → Entry
first_or d [] = d
first_or d (x ∷ xs) = x

pub kept_more : (in_subroutine : Bool) (all : List UnitEntry) (kept next left more : List Entry) (x y : Entry) (calls behind : List (Option Called)) → KeptSoFar in_subroutine all kept left calls → left ≡ x ∷ more → next ≡ kept ++ y ∷ [] → behind ≡ drop 1 calls
    → ((before_end : Bool) (e : UnitEntry) (cs : List (Option Called)) → calls ≡ call_in e.item ∷ cs → x ≡ seen_as in_subroutine before_end e → y ≡ kept_as in_subroutine before_end e)
    → KeptSoFar in_subroutine all next more behind
unfolding first_or
kept_more in_subroutine all kept next left more x y calls behind k l n d turned = go k.rest (sym l ∙ k.seen) k.are k.whole
  where
    go : (rest : List UnitEntry) → x ∷ more ≡ as_entries stand_in in_subroutine rest → calls ≡ calls_in_entries rest → kept ++ as_entries call_statement in_subroutine rest ≡ as_entries call_statement in_subroutine all → KeptSoFar in_subroutine all next more behind
    go [] h c w = absurd cc
    go (e ∷ rest) h c w =
        let same : y ≡ kept_as in_subroutine (is_end_next rest) e = turned (is_end_next rest) e (calls_in_entries rest) c (ap (first_or x) h) in
        record {
          rest = rest;
          seen = ap (drop 1) h;
          are = d ∙ ap (drop 1) c;
          whole = ap (λ (es : List Entry). es ++ as_entries call_statement in_subroutine rest) (n ∙ ap (λ (z : Entry). kept ++ z ∷ []) same)
              ∙ append_assoc kept (kept_as in_subroutine (is_end_next rest) e ∷ []) (as_entries call_statement in_subroutine rest)
              ∙ w;
        }

-- none is left
pub all_kept : (in_subroutine : Bool) (all : List UnitEntry) (kept left : List Entry) (calls : List (Option Called)) → KeptSoFar in_subroutine all kept left calls → left ≡ [] → kept ≡ as_entries call_statement in_subroutine all
all_kept in_subroutine all kept left calls k l = go k.rest (sym l ∙ k.seen) k.whole
  where
    go : (rest : List UnitEntry) → [] ≡ as_entries stand_in in_subroutine rest → kept ++ as_entries call_statement in_subroutine rest ≡ as_entries call_statement in_subroutine all → kept ≡ as_entries call_statement in_subroutine all
    go [] h w = sym (append-nil kept) ∙ w
    go (e ∷ rest) h w = absurd cc

behind_next : (n : ℕ) (cs : List (Option items.Called)) → map call_view (drop (suc n) cs) ≡ drop 1 (map call_view (drop n cs))
behind_next zero [] = refl
behind_next zero (c ∷ cs) = refl
behind_next (suc n) [] = refl
behind_next (suc n) (c ∷ cs) = behind_next n cs

pub behind_first : (n : ℕ) (cs : List (Option items.Called)) → map call_view (drop (n + 1) cs) ≡ drop 1 (map call_view (drop n cs))
behind_first n cs = let next : n + 1 ≡ suc n = omega arith in ap (λ (m : ℕ). map call_view (drop m cs)) next ∙ behind_next n cs

-- a CALL is left only before the end
pub call_below : (n : ℕ) (cs : List (Option items.Called)) (c : Option Called) (more : List (Option Called)) → map call_view (drop n cs) ≡ c ∷ more → n < length cs
call_below zero [] c more h = absurd cc
call_below (suc n) [] c more h = absurd cc
call_below zero (d ∷ cs) c more h = omega arith
call_below (suc n) (d ∷ cs) c more h = let below = call_below n cs c more h in omega (arith, below)

-- the CALL at a place is the first that is left
first_call : (n : ℕ) (cs : List (Option items.Called)) (found : Option items.Called) (c : Option Called) (more : List (Option Called)) → drop n cs ≡ found ∷ drop (n + 1) cs → map call_view (drop n cs) ≡ c ∷ more → call_view found ≡ c
first_call n cs found c more first k = ap (λ (xs : List (Option Called)). get_or xs 0 c) (sym (ap (map call_view) first) ∙ k)

-- a statement has got its CALL back
pub turned : {E : Type 0} (result : Result code.Entry E) (entry : code.Entry) (n : ℕ) (cs : List (Option items.Called)) (found : Option items.Called) → drop n cs ≡ found ∷ drop (n + 1) cs
    → IfOk result (λ e. (entry_of e).statement ≡ (entry_of entry).statement)
    → IfOk result (λ e. (in_subroutine before_end : Bool) (i : UnitItem) → call_view found ≡ call_in i → (entry_of entry).reading ≡ as_reading stand_in in_subroutine before_end i → (entry_of e).reading ≡ as_reading call_statement in_subroutine before_end i)
    → IfOk result (λ e. (in_subroutine before_end : Bool) (x : UnitEntry) (more : List (Option Called)) → map call_view (drop n cs) ≡ call_in x.item ∷ more → entry_of entry ≡ seen_as in_subroutine before_end x → entry_of e ≡ kept_as in_subroutine before_end x)
turned (Err e) entry n cs found first s r = tt
turned (Ok e) entry n cs found first s r = λ in_subroutine before_end x more k l.
    let statement = s ∙ ap (λ (y : Entry). y.statement) l in
    let reading = r in_subroutine before_end x.item (first_call n cs found (call_in x.item) more first k) (ap (λ (y : Entry). y.reading) l) in
    λ j. record { statement = statement j; reading = reading j }
