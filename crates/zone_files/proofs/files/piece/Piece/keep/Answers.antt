use Rattle.std.proofs.Common.{◌≡◌, ◌≤◌, ◌-◌, ◌+◌, ℕ, List, drop, take, length, ap, sym, subst, ◌∙◌, arith}
use Rattle.std.proofs.lemmas.List.{drop-drop, drop-take, length-drop, length-take}
use Rattle.zone_files.proofs.files.piece.Piece.keep.Goals as goal

kept : (octets : List ℕ) (start end left : ℕ) → start ≤ end → end ≤ length octets → left ≤ length (take (end - start) (drop start octets)) → take (end - (end - left)) (drop (end - left) octets) ≡ drop (length (take (end - start) (drop start octets)) - left) (take (end - start) (drop start octets))
kept octets start end left begun fits few =
    let len : length (take (end - start) (drop start octets)) ≡ end - start = omega (arith, length-take (end - start) (drop start octets), length-drop start octets) in
    let n : ℕ = end - start - left in
    let whole : end - start ≡ n + left = omega arith in
    let from : start + n ≡ end - left = omega arith in
    let last : end - (end - left) ≡ left = omega arith in
    ap (λ k. take k (drop (end - left) octets)) last
    ∙ ap (λ k. take left (drop k octets)) (sym from)
    ∙ ap (λ l. take left l) (sym (drop-drop n start octets))
    ∙ sym (drop-take n left (drop start octets))
    ∙ ap (λ k. drop n (take k (drop start octets))) (sym whole)
    ∙ ap (λ k. drop (k - left) (take (end - start) (drop start octets))) (sym len)

pub returns : goal.returns
returns c =
    subst (λ (now : List ℕ). take (c.self.inside.«end» - (c.self.inside.«end» - c.args.left)) (drop (c.self.inside.«end» - c.args.left) c.self.inside.octets.items) ≡ drop (length now - c.args.left) now) c.self.view_is
    (kept c.self.inside.octets.items c.self.inside.start c.self.inside.«end» c.args.left c.self.invariant.1 c.self.invariant.2 (subst (λ (now : List ℕ). c.args.left ≤ length now) (sym c.self.view_is) c.requires))
