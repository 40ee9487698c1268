-- The steps of the loops over pieces: whether one is an edge, the children, the least key.
use Rattle.std.proofs.Common.{◌≡◌, ◌≢◌, ℕ, zero, suc, ◌+◌, ◌<◌, ◌≤◌, ◌||◌, ◌⊎◌, inl, inr, Bool, true, false, cond, min, List, [], ◌∷◌, ◌++◌, length, take, refl, sym, ap, ◌∙◌, subst, arith}
use Rattle.std.proofs.lemmas.Bool.{both_ways, cases_eq, cases_lt, or_cases, or_left, or_right, true≢false, eq-eqb, eqb-true, false_from_ne_true}
use Rattle.std.proofs.lemmas.List.{append_assoc}
use Rattle.permutations.specs.Members.{is_member}
use Rattle.permutations.proofs.Members.{member-append}
use Rattle.pair_split.specs.Split.{is_edge, has_edge}
use Rattle.pair_split.specs.declared.components.What.{What}
use Rattle.pair_split.specs.declared.components.What.TheVariants.{Real, Link}
use Rattle.pair_split.specs.declared.components.Piece.{Piece}
use Rattle.spqr_tree.specs.Keys.{piece_at, parent_at, leads_to, link_key, child, children, AddsChildren, IsLeastKey}
use Rattle.spqr_tree.proofs.Children.{children-more}

-- a piece that is edge e, and none
is_edge-is : (e : ℕ) (w : What) → is_edge e w ≡ true → w ≡ Real e
is_edge-is e (Real f) h = ap Real (eqb-true f e h)
is_edge-is e (Link j) h = absurd (true≢false (sym h))

pub edge-found : (pieces : List Piece) (e i : ℕ) → i < length pieces → (piece_at pieces i).what ≡ Real e → has_edge pieces e ≡ true
edge-found [] e i l h = absurd (omega (arith, l))
edge-found (piece ∷ pieces) e zero l h = or_left (is_edge e piece.what) (has_edge pieces e) (ap (is_edge e) h ∙ eq-eqb e e refl)
edge-found (piece ∷ pieces) e (suc i) l h = or_right (is_edge e piece.what) (has_edge pieces e) (edge-found pieces e i (omega (arith, l)) h)

pub edge-place : (pieces : List Piece) (e : ℕ) → has_edge pieces e ≡ true → (i : ℕ) × (i < length pieces) × ((piece_at pieces i).what ≡ Real e)
edge-place [] e h = absurd (true≢false (sym h))
edge-place (piece ∷ pieces) e h = elim (or_cases (is_edge e piece.what) (has_edge pieces e) h) [
  | inl a ↦ (0, omega arith, is_edge-is e piece.what a)
  | inr a ↦ let w = edge-place pieces e a in (suc w.0, omega (arith, w.1), w.2)
]

pub edge-is : (pieces : List Piece) (e i : ℕ) → i < length pieces → is_edge e (piece_at pieces i).what ≡ true → has_edge pieces e ≡ true
edge-is pieces e i l h = edge-found pieces e i l (is_edge-is e (piece_at pieces i).what h)

pub edge-none : (pieces : List Piece) (e : ℕ) → ((i : ℕ) → i < length pieces → is_edge e (piece_at pieces i).what ≡ false) → has_edge pieces e ≡ false
edge-none pieces e n = false_from_ne_true (has_edge pieces e) (λ h. let w = edge-place pieces e h in both_ways (is_edge e (piece_at pieces w.0).what) (n w.0 w.1) (ap (is_edge e) w.2 ∙ eq-eqb e e refl))

-- a link to component k
leads-is : (k : ℕ) (w : What) → leads_to k w ≡ true → w ≡ Link k
leads-is k (Real e) h = absurd (true≢false (sym h))
leads-is k (Link j) h = ap Link (eqb-true j k h)

leads-not : (k : ℕ) (w : What) → leads_to k w ≡ false → w ≢ Link k
leads-not k w h e = both_ways (leads_to k w) h (ap (leads_to k) e ∙ eq-eqb k k refl)

-- the children of one piece more
pub adds-more : (k parent : ℕ) (pieces : List Piece) (i : ℕ) (parents order mid_parents mid_order next_parents next_order : List ℕ) → i < length pieces
    → AddsChildren k parent (take i pieces) parents order mid_parents mid_order
    → length next_parents ≡ length mid_parents → next_order ≡ mid_order ++ child parent (piece_at pieces i).what
    → ((x : ℕ) → parent_at next_parents x ≡ cond (is_member x (child parent (piece_at pieces i).what)) k (parent_at mid_parents x))
    → AddsChildren k parent (take (i + 1) pieces) parents order next_parents next_order
adds-more k parent pieces i parents order mid_parents mid_order next_parents next_order l a number listed noted = record {
  number = number ∙ a.number;
  listed = listed ∙ ap (λ (z : List ℕ). z ++ one) a.listed ∙ append_assoc order old one ∙ ap (λ (z : List ℕ). order ++ z) (sym more);
  noted = λ x. noted x ∙ ap (cond (is_member x one) k) (a.noted x) ∙ both (is_member x old) (is_member x one) k (parent_at parents x) ∙ ap (λ (b : Bool). cond b k (parent_at parents x)) (sym (ap (is_member x) more ∙ member-append x old one));
}
  where
    one : List ℕ
    one = child parent (piece_at pieces i).what

    old : List ℕ
    old = children parent (take i pieces)

    more : children parent (take (i + 1) pieces) ≡ old ++ one
    more = children-more parent pieces i l

    both : (a b : Bool) (u v : ℕ) → cond b u (cond a u v) ≡ cond (a || b) u v
    both true true u v = refl
    both true false u v = refl
    both false true u v = refl
    both false false u v = refl

module _ (pieces : List Piece) (parent : ℕ) (least : List ℕ) (bound i : ℕ) (key : ℕ) (a : IsLeastKey pieces i parent least bound key) where
  abbrev key_of : ℕ → ℕ
  key_of h = link_key parent least (piece_at pieces h).what

  abbrev Met : ℕ → ℕ → Type 0
  Met n z = (z ≡ bound) ⊎ ((h : ℕ) × (h < n) × ((piece_at pieces h).what ≢ Link parent) × (z ≡ key_of h))

  met-more : (z : ℕ) → Met i z → Met (i + 1) z
  met-more z (inl e) = inl e
  met-more z (inr w) = inr (w.0, omega (arith, w.1), w.2, w.3)

  skip : (piece_at pieces i).what ≡ Link parent → IsLeastKey pieces (i + 1) parent least bound key
  skip e = record {
    lower = λ h b n. elim (cases_eq h i) [
      | inl q ↦ absurd (n (subst (λ z. (piece_at pieces z).what ≡ Link parent) (sym q) e))
      | inr q ↦ a.lower h (omega (arith, b, q)) n
    ];
    met = met-more key a.met;
  }

  -- the link to the parent does not count
  pub least-skip : leads_to parent (piece_at pieces i).what ≡ true → IsLeastKey pieces (i + 1) parent least bound key
  least-skip h = skip (leads-is parent (piece_at pieces i).what h)

  -- another piece's key may be the least
  take_it : (next : ℕ) → (piece_at pieces i).what ≢ Link parent → next ≡ min key (key_of i) → IsLeastKey pieces (i + 1) parent least bound next
  take_it next n e = record {
    lower = λ h b m. elim (cases_eq h i) [
      | inl q ↦ subst (λ z. next ≤ key_of z) (sym q) (omega (arith, e))
      | inr q ↦ omega (arith, e, a.lower h (omega (arith, b, q)) m)
    ];
    met = elim (cases_lt (key_of i) key) [
      | inl b ↦ inr (i, omega arith, n, omega (arith, e, b))
      | inr b ↦ let same : next ≡ key = omega (arith, e, b) in subst (λ z. Met (i + 1) z) (sym same) (met-more key a.met)
    ];
  }

  pub least-take : (next : ℕ) → leads_to parent (piece_at pieces i).what ≡ false → next ≡ min key (key_of i) → IsLeastKey pieces (i + 1) parent least bound next
  least-take next h e = take_it next (leads-not parent (piece_at pieces i).what h) e
