-- Keywords tried one after the other, as a loop tries them.
use Rattle.std.proofs.Common.{◌≡◌, ℕ, ◌+◌, ◌<◌, List, length, get_or, drop, Option, Some, None, refl, sym, ap, ◌∙◌}
use Rattle.std.proofs.lemmas.List.{drop_more}
use Rattle.ped_expressions.specs.Scanning.{go_on, after}
use Rattle.ped_statements.specs.declared.keywords.Keyword.{Keyword}
use Rattle.ped_statements.specs.StatementReading.{keyword_text, first_keyword}

first_left : (ks : List Keyword) (i : ℕ) (d : Keyword) (text : List ℕ) → i < length ks → first_keyword (drop i ks) text ≡ go_on (after (keyword_text (get_or ks i d)) text) (first_keyword (drop (i + 1) ks) text) (λ rest. Some (get_or ks i d, rest))
first_left ks i d text h = ap (λ (l : List Keyword). first_keyword l text) (drop_more ks i d h)

-- a keyword that isn't there
pub keyword_fails : (ks : List Keyword) (i : ℕ) (d : Keyword) (text word : List ℕ) (all : Option (Keyword × List ℕ)) → i < length ks → first_keyword (drop i ks) text ≡ all → word ≡ keyword_text (get_or ks i d) → None ≡ after word text → first_keyword (drop (i + 1) ks) text ≡ all
keyword_fails ks i d text word all h left w a =
    let none : after (keyword_text (get_or ks i d)) text ≡ None = ap (λ (x : List ℕ). after x text) (sym w) ∙ sym a in
    sym (first_left ks i d text h ∙ rw none refl) ∙ left

-- a keyword that is there
pub keyword_found : (ks : List Keyword) (i : ℕ) (d : Keyword) (text word rest : List ℕ) (all : Option (Keyword × List ℕ)) → i < length ks → first_keyword (drop i ks) text ≡ all → word ≡ keyword_text (get_or ks i d) → Some rest ≡ after word text → Some (get_or ks i d, rest) ≡ all
keyword_found ks i d text word rest all h left w a =
    let some : after (keyword_text (get_or ks i d)) text ≡ Some rest = ap (λ (x : List ℕ). after x text) (sym w) ∙ sym a in
    sym (first_left ks i d text h ∙ rw some refl) ∙ left
