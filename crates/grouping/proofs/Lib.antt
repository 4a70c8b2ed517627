mod KeptLaws
mod LeaderLaws
mod MemberLaws
