-- Links after an exchange of what is behind two nodes, and the calls that are such exchanges.
use Rattle.std.proofs.Common.{◌≡◌, ◌≢◌, ℕ, ◌<◌, inl, inr, List, length, slice_index, slice_set, refl, sym, ap, ◌∙◌, subst, eq-eqb}
use Rattle.std.proofs.lemmas.Bool.{cases_eq, ne_eqb}
use Rattle.std.proofs.lemmas.List.{length-set, get_or-set_same, get_or-set_other}
use Rattle.permutations.specs.Permutation.{Permutes}
use Rattle.permutations.specs.Exchange.{swapped, exchange, unlink}
use Rattle.permutations.proofs.Permutations.{permutes-ext, exchange-permutes, exchange-left, exchange-right, exchange-other, exchange-cases, swapped-left, swapped-right, swapped-other}
use Rattle.permutations.proofs.Unlinking.{unlink-exchange}
use denote.RawPtr.{Ptr}
use Rattle.ring_arena.specs.declared.arena.Node.{Node}
use Rattle.ring_arena.specs.Links.{Links, AreInverse, AreNow, linked_after}
use Rattle.ring_arena.specs.Nodes.{links_of, AreNodes, AreRelinked}

-- the list of what is behind each, after the two writes
exchanged-next : (l : List ℕ) (a b : ℕ) → a < length l → b < length l → (x : ℕ) → slice_index (slice_set (slice_set l a (slice_index l b)) b (slice_index l a)) x ≡ exchange a b (slice_index l) x
exchanged-next l a b la lb x =
    let mid : List ℕ = slice_set l a (slice_index l b) in
    let lm : b < length mid = subst (λ (n : ℕ). b < n) (sym (length-set l a (slice_index l b))) lb in
    elim (cases_eq x b) [
      | inl e ↦ ap (slice_index (slice_set mid b (slice_index l a))) e ∙ get_or-set_same mid b (slice_index l a) 0 lm ∙ sym (ap (exchange a b (slice_index l)) e ∙ exchange-right a b (slice_index l))
      | inr h ↦ get_or-set_other mid b x (slice_index l a) 0 h ∙ elim (cases_eq x a) [
        | inl e ↦ ap (slice_index mid) e ∙ get_or-set_same l a (slice_index l b) 0 la ∙ sym (ap (exchange a b (slice_index l)) e ∙ exchange-left a b (slice_index l))
        | inr k ↦ get_or-set_other l a x (slice_index l b) 0 k ∙ sym (exchange-other a b (slice_index l) x k h)
      ]
    ]

-- and the list of what is before each
exchanged-prev : (l p : List ℕ) (a b : ℕ) → length p ≡ length l → Permutes (length l) (slice_index l) (slice_index p) → a < length l → b < length l
    → (x : ℕ) → x < length l → slice_index (slice_set (slice_set p (slice_index l b) a) (slice_index l a) b) x ≡ swapped a b (slice_index p x)
exchanged-prev l p a b lp perm la lb x lx =
    let to_a : ℕ = slice_index l a in let to_b : ℕ = slice_index l b in
    let mid : List ℕ = slice_set p to_b a in
    let in_b : to_b < length p = subst (λ (n : ℕ). to_b < n) (sym lp) (perm.forth b lb) in
    let in_a : to_a < length mid = subst (λ (n : ℕ). to_a < n) (sym (length-set p to_b a ∙ lp)) (perm.forth a la) in
    elim (cases_eq x to_a) [
      | inl e ↦ ap (slice_index (slice_set mid to_a b)) e ∙ get_or-set_same mid to_a b 0 in_a ∙ sym (ap (λ (z : ℕ). swapped a b (slice_index p z)) e ∙ ap (swapped a b) (perm.back_forth a la) ∙ swapped-left a b)
      | inr h ↦ get_or-set_other mid to_a x b 0 h ∙ elim (cases_eq x to_b) [
        | inl e ↦ ap (slice_index mid) e ∙ get_or-set_same p to_b a 0 in_b ∙ sym (ap (λ (z : ℕ). swapped a b (slice_index p z)) e ∙ ap (swapped a b) (perm.back_forth b lb) ∙ swapped-right a b)
        | inr k ↦ get_or-set_other p to_b x a 0 k ∙ sym (swapped-other a b (slice_index p x) (λ e. h (sym (perm.forth_back x lx) ∙ ap (slice_index l) e)) (λ e. k (sym (perm.forth_back x lx) ∙ ap (slice_index l) e)))
      ]
    ]

-- the links after an exchange
pub exchanged : (old new : Links) (a b : ℕ) → AreInverse old → a < length old.next → b < length old.next
    → new.next ≡ slice_set (slice_set old.next a (slice_index old.next b)) b (slice_index old.next a)
    → new.prev ≡ slice_set (slice_set old.prev (slice_index old.next b) a) (slice_index old.next a) b
    → AreNow old new (exchange a b (slice_index old.next))
exchanged old new a b inv la lb en ep =
    let count : length new.next ≡ length old.next = ap length en ∙ length-set (slice_set old.next a (slice_index old.next b)) b (slice_index old.next a) ∙ length-set old.next a (slice_index old.next b) in
    let count_prev : length new.prev ≡ length old.prev = ap length ep ∙ length-set (slice_set old.prev (slice_index old.next b) a) (slice_index old.next a) b ∙ length-set old.prev (slice_index old.next b) a in
    let behind : (d : ℕ) → slice_index new.next d ≡ exchange a b (slice_index old.next) d = λ d. ap (λ l. slice_index l d) en ∙ exchanged-next old.next a b la lb d in
    let before : (d : ℕ) → d < length old.next → slice_index new.prev d ≡ swapped a b (slice_index old.prev d) = λ d l. ap (λ l. slice_index l d) ep ∙ exchanged-prev old.next old.prev a b inv.long inv.permutes la lb d l in
    record {
      count = count;
      behind = λ d l. behind d;
      inverse = record {
        long = count_prev ∙ inv.long ∙ sym count;
        permutes = subst (λ (n : ℕ). Permutes n (slice_index new.next) (slice_index new.prev)) (sym count)
            (permutes-ext (length old.next) (exchange a b (slice_index old.next)) (λ x. swapped a b (slice_index old.prev x)) (slice_index new.next) (slice_index new.prev)
            (exchange-permutes (length old.next) a b (slice_index old.next) (slice_index old.prev) la lb inv.permutes) (λ d l. behind d) before);
      };
    }

-- the same links, told by another function
now-ext : (old new : Links) (f g : ℕ → ℕ) → AreNow old new f → ((d : ℕ) → d < length old.next → f d ≡ g d) → AreNow old new g
now-ext old new f g is e = record { count = is.count; behind = λ d l. is.behind d l ∙ e d l; inverse = is.inverse }

-- a node taken out
pub unlinked : (old new : Links) (d : ℕ) → AreInverse old → d < length old.next → AreNow old new (exchange (slice_index old.prev d) d (slice_index old.next)) → AreNow old new (unlink d (slice_index old.next))
unlinked old new d inv l is = now-ext old new (exchange (slice_index old.prev d) d (slice_index old.next)) (unlink d (slice_index old.next)) is (λ x k. sym (unlink-exchange (length old.next) d (slice_index old.next) (slice_index old.prev) inv.permutes l x k))

-- a node that is alone put behind another
after-exchange : (d x : ℕ) (f : ℕ → ℕ) → f d ≡ d → d ≢ x → (y : ℕ) → exchange x d f y ≡ linked_after d x f y
after-exchange d x f alone other y = elim (exchange-cases x d f y) [
  | inl h ↦ h.1 ∙ alone ∙ sym (rw (h.0, eq-eqb x x refl) refl)
  | inr r ↦ elim r [
    | inl h ↦ h.1 ∙ sym (rw (h.0, ne_eqb d x other, eq-eqb d d refl) refl)
    | inr h ↦ h.2 ∙ sym (rw (ne_eqb y x h.0, ne_eqb y d h.1) refl)
  ]
]

pub put_behind : (old new : Links) (d x : ℕ) → slice_index old.next d ≡ d → d ≢ x → AreNow old new (exchange x d (slice_index old.next)) → AreNow old new (linked_after d x (slice_index old.next))
put_behind old new d x alone other is = now-ext old new (exchange x d (slice_index old.next)) (linked_after d x (slice_index old.next)) is (λ y k. after-exchange d x (slice_index old.next) alone other y)

-- two nodes of a block, each put behind the one before the other
pub exchanged_nodes : (base mid_base new_base : Ptr) (nodes mid new : List Node) (now : Links) (a b to_a to_b : ℕ) → links_of base nodes ≡ now → AreInverse (links_of base nodes) → a < length now.next → b < length now.next
    → to_a ≡ slice_index now.next a → to_b ≡ slice_index now.next b → AreRelinked base nodes mid_base mid a to_b → AreRelinked mid_base mid new_base new b to_a
    → AreNow now (links_of new_base new) (exchange a b (slice_index now.next))
exchanged_nodes base mid_base new_base nodes mid new now a b to_a to_b is inv la lb ea eb r s =
    let next : (links_of new_base new).next ≡ slice_set (slice_set (links_of base nodes).next a to_b) b to_a =
    ap (λ (p : Ptr). (links_of p new).next) s.in_place ∙ s.next ∙ ap (λ (p : Ptr). slice_set (links_of p mid).next b to_a) r.in_place ∙ ap (λ (l : List ℕ). slice_set l b to_a) r.next in
    let prev : (links_of new_base new).prev ≡ slice_set (slice_set (links_of base nodes).prev to_b a) to_a b =
    ap (λ (p : Ptr). (links_of p new).prev) s.in_place ∙ s.prev ∙ ap (λ (p : Ptr). slice_set (links_of p mid).prev to_a b) r.in_place ∙ ap (λ (l : List ℕ). slice_set l to_a b) r.prev in
    exchanged now (links_of new_base new) a b (subst AreInverse is inv) la lb
    (next ∙ (λ i. slice_set (slice_set ((is i).next) a (eb i)) b (ea i)))
    (prev ∙ (λ i. slice_set (slice_set ((is i).prev) (eb i) a) (ea i) b))

-- they stay nodes of the block
pub exchanged-kept : (base mid_base new_base : Ptr) (nodes mid new : List Node) (a b c d : ℕ) → AreRelinked base nodes mid_base mid a b → AreRelinked mid_base mid new_base new c d → AreNodes new_base new
exchanged-kept base mid_base new_base nodes mid new a b c d r s = subst (λ (p : Ptr). AreNodes p new) (sym s.in_place) s.nodes
