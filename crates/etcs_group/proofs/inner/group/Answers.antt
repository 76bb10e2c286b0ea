use Rattle.etcs_group.proofs.inner.group.Goals as goal

pub returns-in-Some-clause-group : goal.returns-in-Some-clause-group
returns-in-Some-clause-group c = λ t held.
    let alike = c.in-Some.ensures.alike t held in
    let country = alike.country in
    let group = alike.group in
    (cc, cc)
