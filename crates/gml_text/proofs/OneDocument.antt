-- Bytes spell at most one document.
use Rattle.std.proofs.Common.{◌≡◌, ℕ, List, refl, sym, subst, ◌∙◌, inl, inr}
use Rattle.gml_text.specs.Document.{Document, empty, number, string, list}
use Rattle.gml_text.specs.Grammar.{NumberStands, StringStands, OpenStands, CloseStands, PairsStand, Spells}
use Rattle.gml_text.specs.Items.{Stops}
use Rattle.gml_text.proofs.NextItem.{key_stops, key_one, number_one, string_one, open_one, close_one, number_string, number_open, string_open}

-- pairs with what ends them are told by the bytes alone
pub pairs_one : (d e : Document) (bytes r s : List ℕ) → PairsStand d bytes r → PairsStand e bytes s → Stops r → Stops s → (d ≡ e) × (r ≡ s)
pairs_one empty empty bytes r s p q of_r of_s = (refl, sym p ∙ q)
pairs_one empty (number l u e) bytes r s p q of_r of_s = absurd (key_stops l bytes q.0 q.2 (subst Stops (sym p) of_r))
pairs_one empty (string l u e) bytes r s p q of_r of_s = absurd (key_stops l bytes q.0 q.2 (subst Stops (sym p) of_r))
pairs_one empty (list l i e) bytes r s p q of_r of_s = absurd (key_stops l bytes q.0 q.4 (subst Stops (sym p) of_r))
pairs_one (number k t d) empty bytes r s p q of_r of_s = absurd (key_stops k bytes p.0 p.2 (subst Stops (sym q) of_s))
pairs_one (number k t d) (number l u e) bytes r s p q of_r of_s =
    let keys : (l ≡ k) × (q.0 ≡ p.0) = key_one l k bytes q.0 p.0 q.2 p.2 in
    let numbers : (u ≡ t) × (q.1 ≡ p.1) = number_one u t p.0 q.1 p.1 (subst (λ (v : List ℕ). NumberStands u v q.1) keys.1 q.3) p.3 in
    let rest : (d ≡ e) × (r ≡ s) = pairs_one d e p.1 r s p.4 (subst (λ (b : List ℕ). PairsStand e b s) numbers.1 q.4) of_r of_s in
    ((λ i. number (sym keys.0 i) (sym numbers.0 i) (rest.0 i)), rest.1)
pairs_one (number k t d) (string l u e) bytes r s p q of_r of_s =
    absurd (number_string t u p.0 p.1 q.1 p.3 (subst (λ (v : List ℕ). StringStands u v q.1) (key_one l k bytes q.0 p.0 q.2 p.2).1 q.3))
pairs_one (number k t d) (list l i e) bytes r s p q of_r of_s =
    absurd (number_open t p.0 p.1 q.1 p.3 (subst (λ (v : List ℕ). OpenStands v q.1) (key_one l k bytes q.0 p.0 q.4 p.2).1 q.5))
pairs_one (string k t d) empty bytes r s p q of_r of_s = absurd (key_stops k bytes p.0 p.2 (subst Stops (sym q) of_s))
pairs_one (string k t d) (number l u e) bytes r s p q of_r of_s =
    absurd (number_string u t p.0 q.1 p.1 (subst (λ (v : List ℕ). NumberStands u v q.1) (key_one l k bytes q.0 p.0 q.2 p.2).1 q.3) p.3)
pairs_one (string k t d) (string l u e) bytes r s p q of_r of_s =
    let keys : (l ≡ k) × (q.0 ≡ p.0) = key_one l k bytes q.0 p.0 q.2 p.2 in
    let strings : (u ≡ t) × (q.1 ≡ p.1) = string_one u t p.0 q.1 p.1 (subst (λ (v : List ℕ). StringStands u v q.1) keys.1 q.3) p.3 in
    let rest : (d ≡ e) × (r ≡ s) = pairs_one d e p.1 r s p.4 (subst (λ (b : List ℕ). PairsStand e b s) strings.1 q.4) of_r of_s in
    ((λ i. string (sym keys.0 i) (sym strings.0 i) (rest.0 i)), rest.1)
pairs_one (string k t d) (list l i e) bytes r s p q of_r of_s =
    absurd (string_open t p.0 p.1 q.1 p.3 (subst (λ (v : List ℕ). OpenStands v q.1) (key_one l k bytes q.0 p.0 q.4 p.2).1 q.5))
pairs_one (list k h d) empty bytes r s p q of_r of_s = absurd (key_stops k bytes p.0 p.4 (subst Stops (sym q) of_s))
pairs_one (list k h d) (number l u e) bytes r s p q of_r of_s =
    absurd (number_open u p.0 q.1 p.1 (subst (λ (v : List ℕ). NumberStands u v q.1) (key_one l k bytes q.0 p.0 q.2 p.4).1 q.3) p.5)
pairs_one (list k h d) (string l u e) bytes r s p q of_r of_s =
    absurd (string_open u p.0 q.1 p.1 (subst (λ (v : List ℕ). StringStands u v q.1) (key_one l k bytes q.0 p.0 q.2 p.4).1 q.3) p.5)
pairs_one (list k h d) (list l i e) bytes r s p q of_r of_s =
    let keys : (l ≡ k) × (q.0 ≡ p.0) = key_one l k bytes q.0 p.0 q.4 p.4 in
    let opens : q.1 ≡ p.1 = open_one p.0 q.1 p.1 (subst (λ (v : List ℕ). OpenStands v q.1) keys.1 q.5) p.5 in
    let inner : (h ≡ i) × (p.2 ≡ q.2) = pairs_one h i p.1 p.2 q.2 p.6 (subst (λ (w : List ℕ). PairsStand i w q.2) opens q.6) (inr (p.3, p.7)) (inr (q.3, q.7)) in
    let closes : q.3 ≡ p.3 = close_one p.2 q.3 p.3 (subst (λ (c : List ℕ). CloseStands c q.3) (sym inner.1) q.7) p.7 in
    let rest : (d ≡ e) × (r ≡ s) = pairs_one d e p.3 r s p.8 (subst (λ (b : List ℕ). PairsStand e b s) closes q.8) of_r of_s in
    ((λ j. list (sym keys.0 j) (inner.0 j) (rest.0 j)), rest.1)

pub document_one : (bytes : List ℕ) (d e : Document) → Spells bytes d → Spells bytes e → d ≡ e
document_one bytes d e p q = (pairs_one d e bytes p.rest q.rest p.pairs q.pairs (inl p.gap) (inl q.gap)).0
