use Rattle.x509_types.proofs.attribute.kind.AttributeKind.at.Goals as goal

pub returns-then-is_content : goal.returns-then-is_content
returns-then-is_content c = (
  record { contents = c.in_ok-contents.contents.now; formed = c.is_content.ensures.formed.0 c.if-is_content.true },
  c.in_ok-contents.ensures,
  c.named.ensures,
)
