-- The steps that are found are the moves to the target.
use Rattle.std.proofs.Common.{◌≡◌, ℕ, ◌<◌, Bool, List, [], ◌++◌, length, map, slice_index, slice_index_or, sym, ap, ap₂, ◌∙◌, subst}
use Rattle.multigraph.specs.Part.{GraphPart}
use Rattle.faces.specs.Euler.{IsPlaneSystem}
use Rattle.skel_embed.specs.Taken.{IsGiven}
use Rattle.whole_embed.specs.declared.members.Member.{Member}
use Rattle.whole_embed.specs.Component.{Component, BlockInPlane, IsComponentInPlane}
use Rattle.whole_embed.specs.Around.{outer_at}
use Rattle.whole_embed.specs.Cuts.{CutState, blocks_in, HavePlanes}
use Rattle.whole_embed.specs.Whole.{AreArranged, IsWholeMember}
use Rattle.whole_embed.proofs.Assembled.{IsAssembled}
use Rattle.whole_embed.proofs.Assembly.{assembled}
use Rattle.whole_convert.specs.Between.{WholeStep, moves_below, is_moved, list_then, arrangements_below, blocks_to, whole_moves_between}
use Rattle.whole_convert.specs.Leading.{LeadTo}
use Rattle.whole_convert.specs.Target.{IsMovedTo, IsLedWhole}
use Rattle.whole_convert.specs.Led.{AreLedBelow, is_marked}
use Rattle.whole_convert.proofs.LedAll.{led-blocks, led-member, led-component, led-planes}
use Rattle.whole_convert.proofs.PartOf.{given-one}
use Rattle.whole_convert.proofs.StepLists.{arrangements-same, then-same}
use Rattle.whole_convert.proofs.CutStages.{whole_moves_lead}

pub moved-to : (k : Component) (all new : List Member) (lists after q : List (List ℕ)) (marks : List Bool) (entries : List (ℕ × List ℕ)) (first last : List WholeStep) → IsComponentInPlane k (blocks_in all) → HavePlanes k all
    → AreArranged k (blocks_in all) lists → IsPlaneSystem k.part.graph q → IsGiven k.part entries q → AreLedBelow k all q new (length k.blocks)
    → first ≡ moves_below k (blocks_in all) (blocks_in new) (length k.blocks)
    → ((j : ℕ) → j < length k.blocks → is_marked marks (slice_index k.blocks j) ≡ is_moved (blocks_in all) (blocks_in new) (slice_index k.blocks j))
    → ((i : ℕ) → i < length k.cuts → slice_index_or after i [] ≡ list_then k (blocks_in new) (is_marked marks) lists i)
    → last ≡ first ++ arrangements_below k (λ i. slice_index_or after i []) q (length k.cuts)
    → IsMovedTo k (blocks_in all) lists entries last
moved-to k all new lists after q marks entries first last is have are plane given led moves marked lists-are e = record {
  system = q;
  given = given;
  member = member;
  moves = steps;
  lead = subst (λ (z : List WholeStep). LeadTo k block lists z q) (sym steps) (whole_moves_lead k block lists q is are member);
}
  where
    block : ℕ → BlockInPlane
    block = blocks_in all

    to-is : blocks_in new ≡ blocks_to k (blocks_in all) q
    to-is = led-blocks k all new q is have plane led

    member : IsWholeMember k (blocks_in all) q
    member = led-member k all new q is have plane led

    made : IsAssembled k (blocks_in all)
    made = assembled k (blocks_in all) is

    list-is : (i : ℕ) → i < length k.cuts → slice_index_or after i [] ≡ list_then k (blocks_to k (blocks_in all) q) (is_moved (blocks_in all) (blocks_to k (blocks_in all) q)) lists i
    list-is i l =
        lists-are i l
        ∙ (then-same k (blocks_in new) (is_marked marks) (is_moved (blocks_in all) (blocks_in new)) lists i made.numbered (λ x m. (made.edge_block x m).0) marked
        ∙ ap (λ (z : ℕ → BlockInPlane). list_then k z (is_moved (blocks_in all) z) lists i) to-is)

    steps : last ≡ whole_moves_between k (blocks_in all) lists q
    steps = e ∙ ap₂ ◌++◌
        (moves ∙ ap (λ (z : ℕ → BlockInPlane). moves_below k (blocks_in all) z (length k.blocks)) to-is)
        (arrangements-same k (λ i. slice_index_or after i []) (list_then k (blocks_to k (blocks_in all) q) (is_moved (blocks_in all) (blocks_to k (blocks_in all) q)) lists) q (length k.cuts) list-is)

-- the same of copies of the component and of lists that were borrowed meanwhile
pub found-moves : (k f c : Component) (part : GraphPart) (all new first_new second_new : List Member) (lists after q : List (List ℕ)) (marks last_marks : List Bool) (entries : List (ℕ × List ℕ)) (first last : List WholeStep) → IsComponentInPlane k (blocks_in all)
    → HavePlanes k all → AreArranged k (blocks_in all) lists → f ≡ k → c ≡ k → part ≡ f.part → first_new ≡ new → second_new ≡ new → last_marks ≡ marks → IsPlaneSystem part.graph q → IsGiven part entries q → AreLedBelow f all q new (length f.blocks)
    → first ≡ moves_below f (blocks_in all) (blocks_in first_new) (length f.blocks)
    → ((j : ℕ) → j < length f.blocks → is_marked marks (slice_index f.blocks j) ≡ is_moved (blocks_in all) (blocks_in first_new) (slice_index f.blocks j))
    → ((i : ℕ) → i < length k.cuts → slice_index_or after i [] ≡ list_then k (blocks_in second_new) (is_marked last_marks) lists i)
    → last ≡ first ++ arrangements_below c (λ i. slice_index_or after i []) q (length c.cuts)
    → IsMovedTo k (blocks_in all) lists entries last
found-moves k f c part all new first_new second_new lists after q marks last_marks entries first last is have are ef ec ep en es em plane given led moves marked lists-are e =
    let part-is : part ≡ k.part = ep ∙ ap (λ (z : Component). z.part) ef in
    moved-to k all new lists after q marks entries first last is have are
    (subst (λ (p : GraphPart). IsPlaneSystem p.graph q) part-is plane)
    (subst (λ (p : GraphPart). IsGiven p entries q) part-is given)
    (subst (λ (z : Component). AreLedBelow z all q new (length z.blocks)) ef led)
    (moves ∙ (ap (λ (z : Component). moves_below z (blocks_in all) (blocks_in first_new) (length z.blocks)) ef ∙ ap (λ (z : List Member). moves_below k (blocks_in all) (blocks_in z) (length k.blocks)) en))
    (subst (λ (z : List Member). (j : ℕ) → j < length k.blocks → is_marked marks (slice_index k.blocks j) ≡ is_moved (blocks_in all) (blocks_in z) (slice_index k.blocks j)) en
    (subst (λ (z : Component). (j : ℕ) → j < length z.blocks → is_marked marks (slice_index z.blocks j) ≡ is_moved (blocks_in all) (blocks_in first_new) (slice_index z.blocks j)) ef marked))
    (λ i l. lists-are i l ∙ (ap (λ (z : List Member). list_then k (blocks_in z) (is_marked last_marks) lists i) es ∙ ap (λ (z : List Bool). list_then k (blocks_in new) (is_marked z) lists i) em))
    (e ∙ ap (λ (z : Component). first ++ arrangements_below z (λ i. slice_index_or after i []) q (length z.cuts)) ec)

-- and with the blocks and the lists they are what leads a component there
pub led-whole : (k : Component) (all new : List Member) (lists q : List (List ℕ)) (entries : List (ℕ × List ℕ)) (steps : List WholeStep) (cuts : CutState) → IsComponentInPlane k (blocks_in all) → HavePlanes k all → IsPlaneSystem k.part.graph q → IsGiven k.part entries q
    → AreLedBelow k all q new (length k.blocks) → IsMovedTo k (blocks_in all) lists entries steps → cuts.component ≡ k → cuts.lists ≡ map (outer_at k.part q) k.cuts → IsLedWhole k (blocks_in all) lists entries steps new cuts
led-whole k all new lists q entries steps cuts is have plane given led m component set =
    let made : IsAssembled k (blocks_in all) = assembled k (blocks_in all) is in
    let same : q ≡ m.system = given-one k.part entries made.numbered q m.system given m.given in
    record {
      moved = m;
      blocks = led-blocks k all new q is have plane led ∙ ap (blocks_to k (blocks_in all)) same;
      component = component;
      set = set ∙ ap (λ (z : List (List ℕ)). map (outer_at k.part z) k.cuts) same;
      in_plane = subst (λ (z : Component). IsComponentInPlane z (blocks_in new)) (sym component) (led-component k all new q is have plane led);
      planes = subst (λ (z : Component). HavePlanes z new) (sym component) (led-planes k all new q is have plane led);
    }
