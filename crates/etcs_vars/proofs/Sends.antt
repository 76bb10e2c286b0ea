-- Variables sent one after another, by what a sink holds with more of them.
use Rattle.std.proofs.Common.{◌≡◌, ℕ, ◌+◌, ◌-◌, ◌++◌, length, take, drop, sym, ap, ◌∙◌}
use Rattle.std.proofs.lemmas.List.{take_rest, take-append-drop}
use Rattle.std.proofs.Math.Seq.{take-add}
use Rattle.etcs_vars.specs.Reading.{Reading}

-- some after the first
pub sent_more : {S : Type 0} (with : S → Reading → S) → ((s : S) (a b : Reading) → with s (a ++ b) ≡ with (with s a) b) → (s one two : S) (sent : Reading) (done n : ℕ) → one ≡ with s (take done sent) → two ≡ with one (take n (take (length sent - done) (drop done sent))) → two ≡ with s (take (done + n) sent)
sent_more {S} with both s one two sent done n e f =
    let more = take n (drop done sent) in
    f
    ∙ ap (λ (r : Reading). with one (take n r)) (take_rest sent done)
    ∙ ap (λ (t : S). with t more) e
    ∙ sym (both s (take done sent) more)
    ∙ ap (with s) (sym (take-add done n sent))

-- all after the first
pub sent_rest : {S : Type 0} (with : S → Reading → S) → ((s : S) (a b : Reading) → with s (a ++ b) ≡ with (with s a) b) → (s one two : S) (sent : Reading) (done : ℕ) → one ≡ with s (take done sent) → two ≡ with one (take (length sent - done) (drop done sent)) → two ≡ with s sent
sent_rest {S} with both s one two sent done e f =
    f
    ∙ ap (with one) (take_rest sent done)
    ∙ ap (λ (t : S). with t (drop done sent)) e
    ∙ sym (both s (take done sent) (drop done sent))
    ∙ ap (with s) (take-append-drop done sent)
