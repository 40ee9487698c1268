-- Arrangements of the edges around a vertex: cyclic orders of them all that keep the cyclic order of each block, and in which no
-- two blocks cross. `block` is the block of each edge, `order` the cyclic order that each block has around the vertex.
use Rattle.std.specs.Prelude.{◌≡◌, ℕ, ◌+◌, Bool, true, false, not, ◌&&◌, ◌||◌, ◌==◌, nat_lt, if◌then◌else◌, List, [], ◌∷◌, filter, slice_index_or, IsPermutation}
use Rattle.std.specs.List.{list_all}
use Rattle.permutations.specs.Members.{is_member, is_distinct}
use Rattle.permutations.specs.Cyclic.{first_or, from_least}
use Rattle.choice_lists.specs.Order.{IsRising}
use Rattle.choice_lists.specs.Choices.{bond_choices}

-- whether two lists are equal
abbrev pub same_list : List ℕ → List ℕ → Bool
same_list [] [] = true
same_list [] (y ∷ k) = false
same_list (x ∷ l) [] = false
same_list (x ∷ l) (y ∷ k) = (x == y) && same_list l k

-- the edges of block b in the list, in its order
abbrev pub of_block : (ℕ → ℕ) → ℕ → List ℕ → List ℕ
of_block block b l = filter (λ e. block e == b) l

-- whether the edges of block b are in the list in the cyclic order that the block has
abbrev pub keeps : (ℕ → ℕ) → (ℕ → List ℕ) → ℕ → List ℕ → Bool
keeps block order b l = same_list (from_least (of_block block b l)) (from_least (order b))

-- how often the block changes from one edge to the next along the list, where the edge before the list is of block b
abbrev pub changes_from : (ℕ → ℕ) → ℕ → List ℕ → ℕ
changes_from block b [] = 0
changes_from block b (e ∷ l) = (if block e == b then changes_from block b l else (changes_from block (block e) l + 1))

-- how often the block changes along the list
abbrev pub changes : (ℕ → ℕ) → List ℕ → ℕ
changes block [] = 0
changes block (e ∷ l) = changes_from block (block e) l

-- whether blocks b and c cross: of their edges alone, along the list, the block changes more than twice
abbrev pub cross : (ℕ → ℕ) → ℕ → ℕ → List ℕ → Bool
cross block b c l = nat_lt 2 (changes block (filter (λ e. (block e == b) || (block e == c)) l))

-- whether the list keeps the cyclic order of each block, and no two blocks cross
abbrev pub is_arranged : (ℕ → ℕ) → (ℕ → List ℕ) → List ℕ → Bool
is_arranged block order l = list_all (λ e. keeps block order (block e) l) l && list_all (λ e. list_all (λ f. not (cross block (block e) (block f) l)) l) l

-- each cyclic order of increasing numbers once, from the least number on, in lexicographic order
abbrev pub cyclic_orders : List ℕ → List (List ℕ)
cyclic_orders edges = bond_choices edges

-- all arrangements of these edges, each from the least edge on, in lexicographic order
abbrev pub arrangements_at : (ℕ → ℕ) → (ℕ → List ℕ) → List ℕ → List (List ℕ)
arrangements_at block order edges = filter (is_arranged block order) (cyclic_orders edges)

-- the first of them
abbrev pub first_arrangement : (ℕ → ℕ) → (ℕ → List ℕ) → List ℕ → List ℕ
first_arrangement block order edges = slice_index_or (arrangements_at block order edges) 0 []

-- the edges increase, and each block of one of them has a cyclic order of its own edges among them
pub record AreOrders (block : ℕ → ℕ) (order : ℕ → List ℕ) (edges : List ℕ) : Type 0 where
  pub rise : IsRising nat_lt edges
  pub distinct : (e : ℕ) → is_member e edges ≡ true → is_distinct (order (block e)) ≡ true
  pub members : (e x : ℕ) → is_member e edges ≡ true → is_member x (order (block e)) ≡ (is_member x edges && (block x == block e))

-- an arrangement: all edges, from the least on, each block in its cyclic order, and no two blocks cross
pub record IsArrangement (block : ℕ → ℕ) (order : ℕ → List ℕ) (edges l : List ℕ) : Type 0 where
  pub all : IsPermutation edges l
  pub least_first : first_or 0 l ≡ first_or 0 edges
  pub kept : (e : ℕ) → is_member e l ≡ true → keeps block order (block e) l ≡ true
  pub apart : (b c : ℕ) → cross block b c l ≡ false
