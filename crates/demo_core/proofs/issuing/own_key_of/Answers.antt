use Rattle.demo_core.proofs.issuing.own_key_of.Goals as goal

pub returns-in-Ok : goal.returns-in-Ok
returns-in-Ok c = record { private = c.in_ok-key.key; keys = record { private = c.in_ok-key.ensures; public = c.in-Ok.ensures.answer } }
