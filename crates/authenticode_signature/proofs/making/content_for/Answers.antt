use Rattle.authenticode_parts.specs.MadeContent.{data_element}
use Rattle.cms_content.specs.IndirectData.{indirect_data_content}
use Rattle.authenticode_signature.proofs.MadeSteps.{unwritten_as}
use Rattle.authenticode_signature.proofs.making.content_for.Goals as goal

pub returns-in-Err : goal.returns-in-Err
returns-in-Err c =
    unwritten_as (indirect_data_content c.in_ok-indirect.indirect) (data_element c.args.program.now.hash c.args.program.now.file_hash.now)
    c.in-Err.source c.from.result c.in_ok-indirect.ensures c.from.ensures c.in-Err.ensures
