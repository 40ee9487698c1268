-- How deep lists are nested, in a document of which some pairs have been read.
use Rattle.std.proofs.Common.{◌≡◌, ℕ, ◌+◌, ◌≤◌, max, List, [], ◌∷◌, length, ap, arith}
use Rattle.gml_text.specs.Document.{Document, empty, number, string, list, append, depth}
use Rattle.gml_text.specs.Partial.{Frame, closed, plug, Ends, Completes}

-- of some pairs before others
pub depth-append : (d e : Document) → depth (append d e) ≡ max (depth d) (depth e)
depth-append empty e = omega arith
depth-append (number key text rest) e = depth-append rest e
depth-append (string key text rest) e = depth-append rest e
depth-append (list key inner rest) e = omega (arith, depth-append rest e)

depth-closed : (frame : Frame) (d : Document) → depth (closed frame d) ≡ max (depth frame.before) (depth d + 1)
depth-closed frame d = omega (arith, depth-append frame.before (list frame.key d empty))

-- a completed document is at least as deep as the lists that were open
pub ends_depth : (frames : List Frame) (pairs : Document) (rest : List ℕ) (d : Document) → Ends frames pairs rest d → length frames + depth pairs ≤ depth d
ends_depth [] pairs rest d e = omega (arith, ap depth e.1)
ends_depth (frame ∷ frames) pairs rest d e =
    omega (arith, ends_depth frames (append (closed frame pairs) e.2.0) e.2.1 d e.2.3, depth-append (closed frame pairs) e.2.0, depth-closed frame pairs)

pub completes_depth : (frames : List Frame) (pairs : Document) (bytes : List ℕ) (d : Document) → Completes frames pairs bytes d → length frames + depth pairs ≤ depth d
completes_depth frames pairs bytes d c = omega (arith, ends_depth frames (append pairs c.0) c.1 d c.3, depth-append pairs c.0)

-- what is put into the innermost list makes the whole so much deeper at most
pub depth-plug : (frames : List Frame) (d e : Document) (n : ℕ) → depth d ≤ max (depth e) n → depth (plug frames d) ≤ max (depth (plug frames e)) (length frames + n)
depth-plug [] d e n h = omega arith
depth-plug (frame ∷ frames) d e n h =
    omega (arith, depth-plug frames (closed frame d) (closed frame e) (n + 1) (omega (arith, depth-closed frame d, depth-closed frame e)))

-- a pair at the end of the innermost list
pub depth_plug-append : (frames : List Frame) (d e : Document) → depth (plug frames (append d e)) ≤ max (depth (plug frames d)) (length frames + depth e)
depth_plug-append frames d e = depth-plug frames (append d e) d (depth e) (omega (arith, depth-append d e))

-- there are at most as many open lists
plug_least : (frames : List Frame) (d : Document) → length frames + depth d ≤ depth (plug frames d)
plug_least [] d = omega arith
plug_least (frame ∷ frames) d = omega (arith, plug_least frames (closed frame d), depth-closed frame d)

pub length-frames : (frames : List Frame) (d : Document) → length frames ≤ depth (plug frames d)
length-frames frames d = omega (arith, plug_least frames d)
