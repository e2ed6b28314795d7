use Rattle.xtest_readme.proofs.citing.images_of_two.Goals as goal

pub returns : goal.returns
returns c = λ same.
    c.bound_octets_fix_the_image.ensures c.args.first.now c.args.second.now c.in_ok-parse.ensures.1 c.in_ok-parse-2.ensures.1 same
